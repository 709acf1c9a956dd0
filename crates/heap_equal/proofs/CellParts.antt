-- What two cells are compared by is what a step of `equal` needs. Assumes nothing.
use mathlib.Core.Path.{◌≡◌, refl, sym, ap, ◌∙◌}
use mathlib.Core.Bool.{Bool, true, false}
use mathlib.Core.List.{[], ◌∷◌}
use mathlib.Core.Logic.{◌⊎◌, ⊎_elim}
use Prim.Native.Nat.{ℕ}
use native.Mathlib.Omega.{arith}
use borrow.Author.Tests.{eqb-true, eqb-false, eq-eqb, ne_eqb}
use denote.Enum.Declared.{tag_of}
use borrow.Enum.Refused.{Among, opened, not_key}
use lib.Dec.{eqb}
use lib.ListN.{length}
use Rattle.laws.specs.Basics.{choose}
use Rattle.rules.specs.Cells.{Block, block, Cell, plain, pair, symbol, string, vector}
use Rattle.rules.specs.Heap.{Heap, cell_at, elements_of}
use Rattle.rules.specs.Equal.{walks, Step, fails, needs, element_by_element, vectors_step, slots_step, walk_step, holds_if, eqv_cells, equal_rules}
use Rattle.equal_laws.proofs.Steps.{one_length, two_lengths}
use Rattle.leaf_cells.specs.Cells.{cell_of}
use Rattle.leaf_cells.specs.declared.VCell.{VCell}
use Rattle.leaf_cells.specs.declared.VCell.TheVariants as cell
use Rattle.heap_equal.specs.declared.Parts.{Parts}
use Rattle.heap_equal.specs.declared.Parts.TheVariants.{Pairs, Vectors, Unlike}
use Rattle.heap_equal.specs.declared.Walked.{Walked}
use Rattle.heap_equal.specs.declared.Walked.TheVariants as walked
use Rattle.heap_equal.specs.contracts.Parts.{the_type}
use Rattle.heap_equal.specs.contracts.Walked.{the_type as walked_type}
use Rattle.heap_equal.specs.Parts.{blocks_parted, parted, needed, wanted, part_rules}

differ : {A : Type 0} → ◌≡◌ {A = ℕ} 0 1 → A
differ e = absurd (omega arith)

-- ---- how the code finds it

-- pairs and vectors are the first two variants of the parts
pub like_variant : (x : ℕ) → Among (0 ∷ 1 ∷ []) x → x ≡ 2 → ⊥
like_variant x o is = not_key (0 ∷ 1 ∷ []) 2 tt x (opened o) is

pub pairs_first : (x : ℕ) → Among (1 ∷ 2 ∷ []) x → x ≡ 0 → ⊥
pairs_first x o is = not_key (1 ∷ 2 ∷ []) 0 tt x (opened o) is

pub last_variant : (p : Parts) → tag_of the_type p ≡ 2 → p ≡ Unlike
last_variant (Pairs a d b e) is = absurd (omega (arith, is))
last_variant (Vectors p q n) is = absurd (omega (arith, is))
last_variant Unlike is = refl

pub second_walked : (x : Walked) → tag_of walked_type x ≡ 1 → x ≡ walked.Ends
second_walked (walked.On n d e) is = absurd (omega (arith, is))
second_walked walked.Ends is = refl
second_walked walked.Differs is = absurd (omega (arith, is))

pub third_walked : (x : Walked) → tag_of walked_type x ≡ 2 → x ≡ walked.Differs
third_walked (walked.On n d e) is = absurd (omega (arith, is))
third_walked walked.Ends is = absurd (omega (arith, is))
third_walked walked.Differs is = refl

-- the numbers of the variants of a cell that is no pair; no vector; neither
pub no_pair : (x : ℕ) → Among (0 ∷ 1 ∷ 2 ∷ 3 ∷ 4 ∷ 5 ∷ 6 ∷ 8 ∷ 9 ∷ 10 ∷ []) x → x ≡ 7 → ⊥
no_pair x o is = not_key (0 ∷ 1 ∷ 2 ∷ 3 ∷ 4 ∷ 5 ∷ 6 ∷ 8 ∷ 9 ∷ 10 ∷ []) 7 tt x (opened o) is

pub no_vector : (x : ℕ) → Among (0 ∷ 1 ∷ 2 ∷ 3 ∷ 4 ∷ 5 ∷ 6 ∷ 7 ∷ 8 ∷ 9 ∷ []) x → x ≡ 10 → ⊥
no_vector x o is = not_key (0 ∷ 1 ∷ 2 ∷ 3 ∷ 4 ∷ 5 ∷ 6 ∷ 7 ∷ 8 ∷ 9 ∷ []) 10 tt x (opened o) is

pub neither_two : (x : ℕ) → Among (0 ∷ 1 ∷ 2 ∷ 3 ∷ 4 ∷ 5 ∷ 6 ∷ 8 ∷ 9 ∷ []) x → (x ≡ 7) ⊎ (x ≡ 10) → ⊥
neither_two x o is = ⊎_elim (not_key (0 ∷ 1 ∷ 2 ∷ 3 ∷ 4 ∷ 5 ∷ 6 ∷ 8 ∷ 9 ∷ []) 7 tt x (opened o)) (not_key (0 ∷ 1 ∷ 2 ∷ 3 ∷ 4 ∷ 5 ∷ 6 ∷ 8 ∷ 9 ∷ []) 10 tt x (opened o)) is

module _ (x y : VCell) (c d : Cell) (p : cell_of x ≡ c) (q : cell_of y ≡ d) where
  pub told : parted (cell_of x) (cell_of y) ≡ parted c d
  told i = parted (p i) (q i)

  pub told_first : (k : Cell) → cell_of x ≡ k → parted k (cell_of y) ≡ parted c d
  told_first k e = ap (λ (z : Cell). parted z (cell_of y)) (sym e) ∙ told

  pub two_pairs : (a e b f : ℕ) → x ≡ cell.Pair a e → y ≡ cell.Pair b f → Pairs a e b f ≡ parted c d
  unfolding part_rules
  two_pairs a e b f m n = sym (λ i. parted (cell_of (m i)) (cell_of (n i))) ∙ told

  vectors_parted : (s m t n : ℕ) → x ≡ cell.Vector s m → y ≡ cell.Vector t n → blocks_parted (block s m) (block t n) ≡ parted c d
  unfolding part_rules
  vectors_parted s m t n u v = sym (λ i. parted (cell_of (u i)) (cell_of (v i))) ∙ told

  pub two_vectors : (s m t n : ℕ) → x ≡ cell.Vector s m → y ≡ cell.Vector t n → m ≡ n → Vectors s t m ≡ parted c d
  unfolding part_rules
  two_vectors s m t n u v e = sym (ap (λ (b : Bool). choose b (Vectors s t m) Unlike) (eq-eqb m n e)) ∙ vectors_parted s m t n u v

  pub two_sizes : (s m t n : ℕ) → x ≡ cell.Vector s m → y ≡ cell.Vector t n → (m ≡ n → ⊥) → Unlike ≡ parted c d
  unfolding part_rules
  two_sizes s m t n u v ne = sym (ap (λ (b : Bool). choose b (Vectors s t m) Unlike) (ne_eqb m n ne)) ∙ vectors_parted s m t n u v

-- a cell that is no pair and no vector is like no cell
pub neither : (x : VCell) → ((a e : ℕ) → x ≡ cell.Pair a e → ⊥) → ((s m : ℕ) → x ≡ cell.Vector s m → ⊥) → (d : Cell) → Unlike ≡ parted (cell_of x) d
unfolding part_rules
neither cell.Undefined u v d = refl
neither cell.Nil u v d = refl
neither cell.Eof u v d = refl
neither cell.Void u v d = refl
neither (cell.Bool b) u v d = refl
neither (cell.Char n) u v d = refl
neither (cell.Number n) u v d = refl
neither (cell.Pair a e) u v d = absurd (u a e refl)
neither (cell.Symbol p n) u v d = refl
neither (cell.String p n) u v d = refl
neither (cell.Vector s m) u v d = absurd (v s m refl)

pub pair_alone : (a e : ℕ) (y : VCell) → ((b f : ℕ) → y ≡ cell.Pair b f → ⊥) → Unlike ≡ parted (pair a e) (cell_of y)
unfolding part_rules
pair_alone a e cell.Undefined u = refl
pair_alone a e cell.Nil u = refl
pair_alone a e cell.Eof u = refl
pair_alone a e cell.Void u = refl
pair_alone a e (cell.Bool b) u = refl
pair_alone a e (cell.Char n) u = refl
pair_alone a e (cell.Number n) u = refl
pair_alone a e (cell.Pair b f) u = absurd (u b f refl)
pair_alone a e (cell.Symbol p n) u = refl
pair_alone a e (cell.String p n) u = refl
pair_alone a e (cell.Vector s m) u = refl

pub vector_alone : (s : Block) (y : VCell) → ((t n : ℕ) → y ≡ cell.Vector t n → ⊥) → Unlike ≡ parted (vector s) (cell_of y)
unfolding part_rules
vector_alone s cell.Undefined u = refl
vector_alone s cell.Nil u = refl
vector_alone s cell.Eof u = refl
vector_alone s cell.Void u = refl
vector_alone s (cell.Bool b) u = refl
vector_alone s (cell.Char n) u = refl
vector_alone s (cell.Number n) u = refl
vector_alone s (cell.Pair b f) u = refl
vector_alone s (cell.Symbol p n) u = refl
vector_alone s (cell.String p n) u = refl
vector_alone s (cell.Vector t n) u = absurd (u t n refl)

-- ---- what it says

pub pairs_are : (c d : Cell) (a e b f : ℕ) → Pairs a e b f ≡ parted c d → (c ≡ pair a e) × (d ≡ pair b f)
unfolding part_rules
pairs_are (plain x) d a e b f q = differ (cc)
pairs_are (symbol x) d a e b f q = differ (cc)
pairs_are (string x) d a e b f q = differ (cc)
pairs_are (pair a' e') (plain x) a e b f q = differ (cc)
pairs_are (pair a' e') (symbol x) a e b f q = differ (cc)
pairs_are (pair a' e') (string x) a e b f q = differ (cc)
pairs_are (pair a' e') (vector x) a e b f q = differ (cc)
pairs_are (pair a' e') (pair b' f') a e b f q = (cc, cc)
pairs_are (vector x) (plain y) a e b f q = differ (cc)
pairs_are (vector x) (symbol y) a e b f q = differ (cc)
pairs_are (vector x) (string y) a e b f q = differ (cc)
pairs_are (vector x) (pair y z) a e b f q = differ (cc)
pairs_are (vector x) (vector y) a e b f q = at (eqb x.size y.size) q
  where
    at : (t : Bool) → Pairs a e b f ≡ choose t (Vectors x.place y.place x.size) Unlike → (vector x ≡ pair a e) × (vector y ≡ pair b f)
    at true r = differ (cc)
    at false r = differ (cc)

pub vectors_are : (c d : Cell) (p q n : ℕ) → Vectors p q n ≡ parted c d → (c ≡ vector (block p n)) × (d ≡ vector (block q n))
unfolding part_rules
vectors_are (plain x) d p q n e = differ (cc)
vectors_are (symbol x) d p q n e = differ (cc)
vectors_are (string x) d p q n e = differ (cc)
vectors_are (pair a b) (plain x) p q n e = differ (cc)
vectors_are (pair a b) (symbol x) p q n e = differ (cc)
vectors_are (pair a b) (string x) p q n e = differ (cc)
vectors_are (pair a b) (vector x) p q n e = differ (cc)
vectors_are (pair a b) (pair x y) p q n e = differ (cc)
vectors_are (vector x) (plain y) p q n e = differ (cc)
vectors_are (vector x) (symbol y) p q n e = differ (cc)
vectors_are (vector x) (string y) p q n e = differ (cc)
vectors_are (vector x) (pair y z) p q n e = differ (cc)
vectors_are (vector x) (vector y) p q n e = at (eqb x.size y.size) refl e
  where
    at : (t : Bool) → eqb x.size y.size ≡ t → Vectors p q n ≡ choose t (Vectors x.place y.place x.size) Unlike → (vector x ≡ vector (block p n)) × (vector y ≡ vector (block q n))
    at true u r =
        let i : p ≡ x.place = cc in
        let j : q ≡ y.place = cc in
        let k : n ≡ x.size = cc in
        let m = eqb-true x.size y.size u in
        (sym (λ z. vector (block (i z) (k z))), sym (λ z. vector (block (j z) ((k ∙ m) z))))
    at false u r = differ (cc)

-- ---- the step of two slots

module _ (h : Heap) (s t : ℕ) where
  -- a vector's elements are as many as it says
  abbrev Whole : Cell → Type 0
  Whole c = (b : Block) → c ≡ vector b → length (elements_of h b) ≡ b.size

  blocks_fail : (b c : Block) → length (elements_of h b) ≡ b.size → length (elements_of h c) ≡ c.size → Unlike ≡ blocks_parted b c → vectors_step (elements_of h b) (elements_of h c) ≡ fails
  unfolding blocks_parted
  blocks_fail b c k l e = at (eqb b.size c.size) refl e
    where
      at : (u : Bool) → eqb b.size c.size ≡ u → Unlike ≡ choose u (Vectors b.place c.place b.size) Unlike → vectors_step (elements_of h b) (elements_of h c) ≡ fails
      at true u r = differ (cc)
      at false u r = two_lengths (elements_of h b) (elements_of h c) (λ m. eqb-false b.size c.size u (sym k ∙ m ∙ l))

  blocks_need : (b c : Block) → length (elements_of h b) ≡ b.size → length (elements_of h c) ≡ c.size → (Unlike ≡ blocks_parted b c → ⊥) → vectors_step (elements_of h b) (elements_of h c) ≡ needs (element_by_element (elements_of h b) (elements_of h c))
  unfolding blocks_parted
  blocks_need b c k l ne = at (eqb b.size c.size) refl ne
    where
      at : (u : Bool) → eqb b.size c.size ≡ u → (Unlike ≡ choose u (Vectors b.place c.place b.size) Unlike → ⊥) → vectors_step (elements_of h b) (elements_of h c) ≡ needs (element_by_element (elements_of h b) (elements_of h c))
      at true u r = one_length (elements_of h b) (elements_of h c) (k ∙ eqb-true b.size c.size u ∙ sym l)
      at false u r = absurd (r refl)

  pub unlike_fails : (c d : Cell) → Whole c → Whole d → Unlike ≡ parted c d → slots_step h s t c d ≡ fails
  unfolding part_rules equal_rules
  unlike_fails (plain x) d k l e = refl
  unlike_fails (symbol x) d k l e = refl
  unlike_fails (string x) d k l e = refl
  unlike_fails (pair a b) (plain x) k l e = refl
  unlike_fails (pair a b) (symbol x) k l e = refl
  unlike_fails (pair a b) (string x) k l e = refl
  unlike_fails (pair a b) (vector x) k l e = refl
  unlike_fails (pair a b) (pair x y) k l e = differ (cc)
  unlike_fails (vector x) (plain y) k l e = refl
  unlike_fails (vector x) (symbol y) k l e = refl
  unlike_fails (vector x) (string y) k l e = refl
  unlike_fails (vector x) (pair y z) k l e = refl
  unlike_fails (vector x) (vector y) k l e = blocks_fail x y (k x refl) (l y refl) e

  pub like_needs : (c d : Cell) → Whole c → Whole d → (Unlike ≡ parted c d → ⊥) → slots_step h s t c d ≡ needs (needed (slots_step h s t c d))
  unfolding part_rules equal_rules
  like_needs (plain x) d k l ne = absurd (ne refl)
  like_needs (symbol x) d k l ne = absurd (ne refl)
  like_needs (string x) d k l ne = absurd (ne refl)
  like_needs (pair a b) (plain x) k l ne = absurd (ne refl)
  like_needs (pair a b) (symbol x) k l ne = absurd (ne refl)
  like_needs (pair a b) (string x) k l ne = absurd (ne refl)
  like_needs (pair a b) (vector x) k l ne = absurd (ne refl)
  like_needs (pair a b) (pair x y) k l ne = refl
  like_needs (vector x) (plain y) k l ne = absurd (ne refl)
  like_needs (vector x) (symbol y) k l ne = absurd (ne refl)
  like_needs (vector x) (string y) k l ne = absurd (ne refl)
  like_needs (vector x) (pair y z) k l ne = absurd (ne refl)
  like_needs (vector x) (vector y) k l ne =
      let e = blocks_need x y (k x refl) (l y refl) ne in e ∙ sym (ap (λ (z : Step). needs (needed z)) e)

  -- what a pair on the stack stands for
  pub pairs_want : (a d b e : ℕ) → cell_at h s ≡ pair a d → cell_at h t ≡ pair b e → wanted h s t ≡ walks s t ∷ []
  unfolding part_rules equal_rules
  pairs_want a d b e p q = λ i. needed (slots_step h s t (p i) (q i))

  pub vectors_want : (b c : Block) → length (elements_of h b) ≡ length (elements_of h c) → cell_at h s ≡ vector b → cell_at h t ≡ vector c → wanted h s t ≡ element_by_element (elements_of h b) (elements_of h c)
  unfolding part_rules equal_rules
  vectors_want b c m p q =
      (λ i. needed (slots_step h s t (p i) (q i))) ∙ ap needed (one_length (elements_of h b) (elements_of h c) m)

  pub unlike_wants : (c d : Cell) → Whole c → Whole d → Unlike ≡ parted c d → cell_at h s ≡ c → cell_at h t ≡ d → wanted h s t ≡ []
  unfolding part_rules
  unlike_wants c d k l e p q = (λ i. needed (slots_step h s t (p i) (q i))) ∙ ap needed (unlike_fails c d k l e)

-- ---- the step of the walk

pub walk_ends : (h : Heap) (c d : Cell) → ((a e b f : ℕ) → Pairs a e b f ≡ parted c d → ⊥) → walk_step h c d ≡ holds_if (eqv_cells h c d)
unfolding part_rules equal_rules
walk_ends h (plain x) d ne = refl
walk_ends h (symbol x) d ne = refl
walk_ends h (string x) d ne = refl
walk_ends h (vector x) d ne = refl
walk_ends h (pair a b) (plain x) ne = refl
walk_ends h (pair a b) (symbol x) ne = refl
walk_ends h (pair a b) (string x) ne = refl
walk_ends h (pair a b) (vector x) ne = refl
walk_ends h (pair a b) (pair x y) ne = absurd (ne a b x y refl)
