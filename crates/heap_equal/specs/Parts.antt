-- What two cells are compared by, and the goals that two slots on the stack stand for. Document 01, "Equality": "two pairs, by
-- the pair walk; two vectors of one length, element by element". Assumes nothing.
use Rattle.std.specs.Prelude.{List, [], ◌∷◌, ◌++◌, ℕ, zero, suc, ◌+◌, ◌*◌, eqb, get_or}
use Rattle.laws.specs.Basics.{choose}
use Rattle.rules.specs.Cells.{Block, Cell, plain, pair, symbol, string, vector}
use Rattle.rules.specs.Heap.{Heap, cell_at}
use Rattle.rules.specs.Equal.{Goal, alike, Step, fails, needs, slots_step}
use Rattle.leaf_cells.specs.Elements.{loaded_element}
use Rattle.heap_equal.specs.declared.Parts.{Parts}
use Rattle.heap_equal.specs.declared.Parts.TheVariants.{Pairs, Vectors, Unlike}

-- "two vectors of one length"
unfoldable pub blocks_parted : Block → Block → Parts
blocks_parted b c = choose (eqb b.size c.size) (Vectors b.place c.place b.size) Unlike

unfoldable pub parted : Cell → Cell → Parts
unfolding blocks_parted
parted (plain x) d = Unlike
parted (pair a d) e = elim e [ plain x ↦ Unlike | pair b f ↦ Pairs a d b f | symbol c ↦ Unlike | string c ↦ Unlike | vector c ↦ Unlike ]
parted (symbol b) d = Unlike
parted (string b) d = Unlike
parted (vector b) d =
    elim d [ plain x ↦ Unlike | pair a e ↦ Unlike | symbol c ↦ Unlike | string c ↦ Unlike | vector c ↦ blocks_parted b c ]

unfoldable pub needed : Step → List Goal
needed fails = []
needed (needs gs) = gs

-- what two slots that are not `eqv` need
unfoldable pub wanted : Heap → ℕ → ℕ → List Goal
unfolding needed
wanted h s t = needed (slots_step h s t (cell_at h s) (cell_at h t))

-- the slots of the pair at an index of the stack
abbrev pub first_of : ℕ → List ℕ → ℕ → ℕ
first_of c scratch i = get_or scratch (2 * c + 2 * i) 0

abbrev pub second_of : ℕ → List ℕ → ℕ → ℕ
second_of c scratch i = get_or scratch (2 * c + 2 * i + 1) 0

-- what the pairs on a stack of this height need, the top first
unfoldable pub pending : Heap → ℕ → List ℕ → ℕ → List Goal
unfolding wanted
pending h c scratch zero = []
pending h c scratch (suc i) = wanted h (first_of c scratch i) (second_of c scratch i) ++ pending h c scratch i

-- n elements from a place on should be `equal` to n from another, each to its own
unfoldable pub facing : List ℕ → ℕ → ℕ → ℕ → List Goal
facing elems p q zero = []
facing elems p q (suc n) = alike (loaded_element elems p) (loaded_element elems q) ∷ facing elems (p + 1) (q + 1) n

unfoldable pub part_rules : Unit {0}
unfolding blocks_parted parted needed wanted pending facing
part_rules = tt
