-- What a writer that gathers has been given: what it handed on, and what it holds.
use Rattle.std.specs.Prelude.{List, ℕ, Option}
use Rattle.std.specs.Io.KnownBytes.{append_known}
use Rattle.stored_cases.specs.declared.gathered.Gathered.{Gathered}

-- the bytes that the writer was handed and then those held, where the first are known
abbrev pub known : {W : Type 0} → (W → Option (List ℕ)) → Gathered W → Option (List ℕ)
known contents g = append_known (contents g.out) g.held.items
