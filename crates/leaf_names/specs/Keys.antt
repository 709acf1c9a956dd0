-- Keys in lent parts: entry e has its name's place, its name's size and its scope at e of `keys`, and the name itself in
-- `bytes`. Assumes nothing.
use Rattle.std.specs.Prelude.{Bool, true, not, ◌≡◌, List, [], ◌∷◌, ℕ, get_or, take, drop}
use Rattle.laws.specs.Basics.{both}
use Rattle.leaf_names.specs.declared.Key as code
use Rattle.leaf_names.specs.Ordering.{Key, is_level, not_after, key_compare, ordering}

-- the key that is meant: of what would lie outside the bytes nothing
abbrev pub key_in : List ℕ → code.Key → Key
key_in bytes k = record { name = take k.size (drop k.place bytes); scope = k.scope }

-- entry e's, as it stands; past the list no bytes, and scope 0
abbrev pub stored : List code.Key → ℕ → code.Key
stored keys e = get_or keys e (record { place = 0; size = 0; scope = 0 })

abbrev pub key_of : List code.Key → List ℕ → ℕ → Key
key_of keys bytes e = key_in bytes (stored keys e)

-- the key of d does not stand after that of e
pub record Goes (keys : List code.Key) (bytes : List ℕ) (d e : ℕ) : Type 0 where
  pub goes : not_after (key_compare (key_of keys bytes d) (key_of keys bytes e)) ≡ true

-- two entries under one key
unfoldable pub alike : List code.Key → List ℕ → ℕ → ℕ → Bool
unfolding ordering
alike keys bytes d e = is_level (key_compare (key_of keys bytes d) (key_of keys bytes e))

-- no two neighbours are under one key
unfoldable pub neighbours_differ : List code.Key → List ℕ → List ℕ → Bool
unfolding alike
neighbours_differ keys bytes [] = true
neighbours_differ keys bytes (d ∷ []) = true
neighbours_differ keys bytes (d ∷ e ∷ l) = both (not (alike keys bytes d e)) (neighbours_differ keys bytes (e ∷ l))
