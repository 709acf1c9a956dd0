-- The symbol table's entries, by the words. Document 01: "the symbol table has one entry a (name, scope), each leading to an
-- Allocated slot with that name, no two to the same slot". Assumes nothing.
use Rattle.std.specs.Prelude.{Bool, true, false, List, ◌≡◌, ℕ, ◌+◌, ◌*◌, ◌<◌, ◌≤◌, eqb, ltb, length, get_or}
use Rattle.laws.specs.Basics.{both}
use Rattle.rules.specs.Numbers.{bits32}
use Rattle.rules.specs.Cells.{block}
use Rattle.rules.specs.Heap.{part_of}
use Rattle.leaf_names.specs.declared.Key as code
use Rattle.leaf_names.specs.Keys.{stored, key_of}
use Rattle.heap_sound_rows.specs.Rows.{word}
use Rattle.heap_sound_cells.specs.Looked.{used_slot}

-- entry i leads to a symbol in use, and its scope is of 32 bits
unfoldable pub entry_good : List ℕ → List ℕ → ℕ → ℕ → Bool
entry_good ws m capacity i =
    both (used_slot capacity m (word ws i 5)) (both (eqb (get_or ws (8 + 8 * word ws i 5) 0) 8) (ltb (word ws i 6) bits32))

-- the name that entry i leads to
abbrev pub name_of : List ℕ → List ℕ → ℕ → List ℕ
name_of ws bytes i = part_of bytes (block (word ws (word ws i 5) 1) (word ws (word ws i 5) 2))

-- the keys of the first n entries stand in a list
pub record Keyed (ws : List ℕ) (keys : List code.Key) (n : ℕ) : Type 0 where
  pub at : (e : ℕ) → e < n → stored keys e ≡ record { place = word ws (word ws e 5) 1; size = word ws (word ws e 5) 2; scope = word ws e 6 }

-- no two of n entries have one key
pub record KeysDiffer (keys : List code.Key) (bytes : List ℕ) (n : ℕ) : Type 0 where
  pub differ : (d e : ℕ) → d < n → e < n → key_of keys bytes d ≡ key_of keys bytes e → d ≡ e

-- the first n entries lead to rows
pub record Leading (ws : List ℕ) (n : ℕ) : Type 0 where
  pub row : (e : ℕ) → e < n → 8 * word ws e 5 + 16 ≤ length ws

-- no two of n entries have one name and one scope
pub record NamesDiffer (ws bytes : List ℕ) (n : ℕ) : Type 0 where
  pub differ : (d e : ℕ) → d < n → e < n → word ws d 6 ≡ word ws e 6 → name_of ws bytes d ≡ name_of ws bytes e → d ≡ e

-- the answer decides a statement
pub record Decided (P : Type 0) (r : Bool) : Type 0 where
  pub holds : r ≡ true → P
  pub fails : r ≡ false → P → ⊥

-- the table is sound, entry by entry
pub record TableGood (ws m bytes : List ℕ) (capacity n : ℕ) : Type 0 where
  pub good : (i : ℕ) → i < n → entry_good ws m capacity i ≡ true
  pub slots : (i j : ℕ) → i < j → j < n → word ws i 5 ≡ word ws j 5 → ⊥
  pub names : (i j : ℕ) → i < j → j < n → word ws i 6 ≡ word ws j 6 → name_of ws bytes i ≡ name_of ws bytes j → ⊥
