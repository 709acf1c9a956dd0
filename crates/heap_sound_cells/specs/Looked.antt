-- What is looked at of a cell, of a text, of a vector's elements. Document 01: "11's rules on kinds, Bool, Char and UTF-8
-- hold", "every slot that an Allocated cell or its elements name is Allocated". Assumes nothing.
use Rattle.std.specs.Prelude.{Bool, true, false, not, List, ◌≡◌, ℕ, ◌+◌, ◌*◌, ◌<◌, eqb, leb, ltb, get_or}
use Rattle.laws.specs.Basics.{both, either, every_below, basics}
use Rattle.rules.specs.Numbers.{most_vector, most_string, most_name}
use Rattle.rules.specs.Utf8.{utf8}
use Rattle.rules.specs.Map.{is_allocated}
use Rattle.rules.specs.Cells.{Value, slot, scalar, Block, Cell, plain, pair, symbol, string, vector}
use Rattle.rules.specs.Heap.{part_of}
use Rattle.rules.specs.Layout.{cell_from, value_from}
use Rattle.rules.specs.Sound.{scalar_allowed}
use Rattle.heap_sound_rows.specs.Rows.{word}
use Rattle.heap_sound_blocks.specs.Blocks.{shown, Apart}

-- the slot is below the capacity and Allocated
unfoldable pub used_slot : ℕ → List ℕ → ℕ → Bool
used_slot capacity m s = both (ltb s capacity) (is_allocated m s)

-- a cell, but for what its block holds
unfoldable pub plain_good : ℕ → List ℕ → Cell → Bool
unfolding used_slot
plain_good capacity m (plain s) = scalar_allowed s
plain_good capacity m (pair a d) = both (used_slot capacity m a) (used_slot capacity m d)
plain_good capacity m (symbol b) = leb b.size most_name
plain_good capacity m (string b) = leb b.size most_string
plain_good capacity m (vector b) = leb b.size most_vector

-- that of row i
unfoldable pub plain_at : List ℕ → List ℕ → ℕ → ℕ → Bool
unfolding plain_good
plain_at ws m capacity i = plain_good capacity m (cell_from (get_or ws (8 + 8 * i) 0) (word ws i 1) (word ws i 2))

-- element k
abbrev pub value_at : List ℕ → ℕ → Value
value_at es k = value_from (get_or es (3 * k) 0) (get_or es (3 * k + 1) 0)

-- a value names a slot in use, if any
unfoldable pub named : ℕ → List ℕ → Value → Bool
unfolding used_slot
named capacity m (slot s) = used_slot capacity m s
named capacity m (scalar s) = true

-- a block's text is UTF-8
unfoldable pub text_good : List ℕ → Block → Bool
text_good bytes b = utf8 (part_of bytes b)

-- a block's elements name slots in use
unfoldable pub vector_good : List ℕ → List ℕ → ℕ → Block → Bool
unfolding named basics
vector_good es m capacity b = every_below b.size (λ k. named capacity m (value_at es (b.place + k)))

-- slot i did not paint the block, or it is good
unfoldable pub first_good : (Block → Bool) → Block → List ℕ → ℕ → Bool
first_good good b paint i = either (eqb b.size 0) (either (not (eqb (get_or paint b.place 0) (i + 1))) (good b))

abbrev pub first_text : List ℕ → List ℕ → List ℕ → ℕ → Bool
first_text ws bytes paint i = first_good (text_good bytes) (shown ws 7 8 i) paint i

abbrev pub first_vector : List ℕ → List ℕ → List ℕ → ℕ → List ℕ → ℕ → Bool
first_vector ws es m capacity paint i = first_good (vector_good es m capacity) (shown ws 10 10 i) paint i

-- the answer of a look at all blocks: they are apart, and each is good
pub record Looked (shows : ℕ → Block) (used n : ℕ) (good : Block → Bool) (r : Bool) : Type 0 where
  pub sound : r ≡ true → Apart shows used n
  pub all : r ≡ true → (i : ℕ) → i < n → 0 < (shows i).size → good (shows i) ≡ true
  pub bad : r ≡ false → Apart shows used n → ((i : ℕ) → i < n → 0 < (shows i).size → good (shows i) ≡ true) → ⊥
