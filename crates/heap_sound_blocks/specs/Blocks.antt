-- Blocks painted over their arena with the slot that showed each first. Document 01: "blocks lie in the room in use and are
-- either the same or disjoint". Assumes nothing.
use Rattle.std.specs.Prelude.{Bool, true, false, List, ◌≡◌, ℕ, ◌+◌, ◌-◌, ◌*◌, ◌<◌, ◌≤◌, get_or}
use Rattle.laws.specs.Basics.{choose, between}
use Rattle.rules.specs.Cells.{Block, block}
use Rattle.rules.specs.Sound.{lies_in, same_or_disjoint}
use Rattle.heap_sound_rows.specs.Rows.{word}
use Rattle.heap_sound_blocks.specs.declared.Part.{Part}

abbrev pub as_block : Part → Block
as_block p = block p.place p.size

-- the block that row i shows, where its kind is from `low` to `high`; else an empty one
unfoldable pub shown : List ℕ → ℕ → ℕ → ℕ → Block
shown ws low high i =
    choose (between low high (get_or ws (8 + 8 * i) 0)) (block (word ws i 1) (word ws i 2)) (block 0 0)

-- x is one of the block's places
pub record Inside (b : Block) (x : ℕ) : Type 0 where
  pub from : b.place ≤ x
  pub to : x < b.place + b.size

-- a place that was painted before
pub record Met (paint : List ℕ) (b : Block) : Type 0 where
  pub at : ℕ
  pub inside : Inside b at
  pub painted : 0 < get_or paint at 0

-- what covering a part leaves and answers
pub record Covered (before after : List ℕ) (place size mark : ℕ) (r : Bool) : Type 0 where
  pub clear : r ≡ true → (x : ℕ) → Inside (block place size) x → get_or before x 0 ≡ 0
  pub inside : r ≡ true → (x : ℕ) → Inside (block place size) x → get_or after x 0 ≡ mark
  pub outside : r ≡ true → (x : ℕ) → (Inside (block place size) x → ⊥) → get_or after x 0 ≡ get_or before x 0
  pub met : r ≡ false → Met before (block place size)

-- the blocks of the first n slots are sound: each lies in the room in use, and any two are the same or disjoint
pub record Apart (shows : ℕ → Block) (used n : ℕ) : Type 0 where
  pub lies : (i : ℕ) → i < n → lies_in used (shows i) ≡ true
  pub apart : (i j : ℕ) → i < n → j < n → 0 < (shows i).size → 0 < (shows j).size → same_or_disjoint (shows i) (shows j) ≡ true

-- a painted place: the slot that painted it shows a block there
pub record Owned (shows : ℕ → Block) (n x mark : ℕ) : Type 0 where
  pub below : mark - 1 < n
  pub inside : Inside (shows (mark - 1)) x

-- a place of a shown block: it is painted, by a slot that shows the same block
pub record Shared (shows : ℕ → Block) (b : Block) (mark : ℕ) : Type 0 where
  pub painted : 0 < mark
  pub same : shows (mark - 1) ≡ b

-- the blocks of the first n slots are painted
pub record Painted (shows : ℕ → Block) (n : ℕ) (paint : List ℕ) : Type 0 where
  pub owned : (x : ℕ) → 0 < get_or paint x 0 → Owned shows n x (get_or paint x 0)
  pub shared : (i x : ℕ) → i < n → Inside (shows i) x → Shared shows (shows i) (get_or paint x 0)

-- what the turn of slot i leaves and answers
pub record Turned (shows : ℕ → Block) (used i : ℕ) (after : List ℕ) (r : Bool) : Type 0 where
  pub lies : r ≡ true → lies_in used (shows i) ≡ true
  pub painted : r ≡ true → Painted shows (i + 1) after
  pub bad : r ≡ false → (n : ℕ) → i < n → Apart shows used n → ⊥

-- what painting all of n slots leaves and answers
pub record Laid (shows : ℕ → Block) (used n : ℕ) (after : List ℕ) (r : Bool) : Type 0 where
  pub sound : r ≡ true → Apart shows used n
  pub painted : r ≡ true → Painted shows n after
  pub bad : r ≡ false → Apart shows used n → ⊥
