-- What the rules accept and refuse of a given scalar, value and cell, kind by kind; and that the slots are in use in a sound
-- heap just where the lent map has them so. Assumes nothing.
use mathlib.Core.Path.{◌≡◌, refl, sym, ap, ◌∙◌}
use mathlib.Core.Bool.{Bool, true, false}
use mathlib.Core.List.{List}
use Prim.Native.Nat.{ℕ, zero, suc, ◌≤◌, ◌<◌}
use native.Mathlib.Omega.{arith}
use native.Mathlib.Decide.{dec_lt}
use borrow.Author.Tests.{eq-eqb, ne_eqb}
use lib.Dec.{eqb}
use lib.ListN.{get_or}
use Rattle.laws.specs.Basics.{choose, both}
use Rattle.rules.specs.Refusals.{Refusal, Answer, accepted, refused, malformed, unknown_kind, bad_bool, bad_char}
use Rattle.rules.specs.Utf8.{scalar_value}
use Rattle.rules.specs.Cells.{Scalar, char, slot, scalar, Cell, plain, pair, symbol, string, vector}
use Rattle.rules.specs.Cells as cells
use Rattle.rules.specs.Heap.{in_use}
use Rattle.rules.specs.Layout.{Lent, heap_of, scalar_from, value_from, cell_from, layout_rules}
use Rattle.rules.specs.Sound.{sound, sound_rules}
use Rattle.rules.specs.Calls.{given_scalar, given_value, given_cell, of_answer, value_in_use, cell_in_use, call_rules}
use Rattle.rules.proofs.SoundLaws.{clauses}
use Rattle.leaf_cells.specs.Cells.{cell_of}
use Rattle.leaf_cells.specs.declared.VCell.{VCell}
use Rattle.leaf_cells.specs.declared.VCell.TheVariants as vcell
use Rattle.leaf_cells.proofs.Variants.{Plain}
use Rattle.heap_sound_cells.specs.Looked.{used_slot, named}
use Rattle.heap_sound.proofs.OutlineLaws.{growth_is, ground, in_use_is}
use Rattle.heap_given.specs.Given.{cell_named}

-- ---- scalars

pub bool_bad : (kind a : ℕ) → kind ≡ 4 → 1 < a → refused (malformed bad_bool 0) ≡ given_scalar kind a
unfolding call_rules
bool_bad kind zero e h = absurd (omega arith)
bool_bad kind (suc zero) e h = absurd (omega arith)
bool_bad kind (suc (suc a)) e h = ap (λ (k : ℕ). given_scalar k (suc (suc a))) (sym e)

pub bool_good : (kind a : ℕ) → kind ≡ 4 → a ≤ 1 → accepted (scalar_from kind a) ≡ given_scalar kind a
unfolding call_rules layout_rules
bool_good kind a e h = ap (λ (k : ℕ). accepted (scalar_from k a)) e ∙ at_four a h ∙ ap (λ (k : ℕ). given_scalar k a) (sym e)
  where
    at_four : (n : ℕ) → n ≤ 1 → accepted (scalar_from 4 n) ≡ given_scalar 4 n
    at_four zero p = refl
    at_four (suc zero) p = refl
    at_four (suc (suc n)) p = absurd (omega arith)

module _ (kind a : ℕ) (e : kind ≡ 5) where
  char_choice : choose (scalar_value a) (accepted (char a)) (refused (malformed bad_char 0)) ≡ given_scalar kind a
  unfolding call_rules
  char_choice = ap (λ (k : ℕ). given_scalar k a) (sym e)

  pub char_bad : scalar_value a ≡ false → refused (malformed bad_char 0) ≡ given_scalar kind a
  char_bad p = sym (ap (λ (b : Bool). choose b (accepted (char a)) (refused (malformed bad_char 0))) p) ∙ char_choice

  pub char_good : scalar_value a ≡ true → accepted (scalar_from kind a) ≡ given_scalar kind a
  unfolding layout_rules
  char_good p =
      ap (λ (k : ℕ). accepted (scalar_from k a)) e
      ∙ sym (ap (λ (b : Bool). choose b (accepted (char a)) (refused (malformed bad_char 0))) p) ∙ char_choice

pub kind_bad : (kind a : ℕ) → 6 < kind → refused (malformed unknown_kind 0) ≡ given_scalar kind a
unfolding call_rules
kind_bad zero a h = absurd (omega arith)
kind_bad (suc zero) a h = absurd (omega arith)
kind_bad (suc (suc zero)) a h = absurd (omega arith)
kind_bad (suc (suc (suc zero))) a h = absurd (omega arith)
kind_bad (suc (suc (suc (suc zero)))) a h = absurd (omega arith)
kind_bad (suc (suc (suc (suc (suc zero))))) a h = absurd (omega arith)
kind_bad (suc (suc (suc (suc (suc (suc zero)))))) a h = absurd (omega arith)
kind_bad (suc (suc (suc (suc (suc (suc (suc k))))))) a h = refl

pub kind_good : (kind a : ℕ) → (kind ≡ 4 → ⊥) → (kind ≡ 5 → ⊥) → kind ≤ 6 → accepted (scalar_from kind a) ≡ given_scalar kind a
unfolding call_rules layout_rules
kind_good zero a x y h = refl
kind_good (suc zero) a x y h = refl
kind_good (suc (suc zero)) a x y h = refl
kind_good (suc (suc (suc zero))) a x y h = refl
kind_good (suc (suc (suc (suc zero)))) a x y h = absurd (x refl)
kind_good (suc (suc (suc (suc (suc zero))))) a x y h = absurd (y refl)
kind_good (suc (suc (suc (suc (suc (suc zero)))))) a x y h = refl
kind_good (suc (suc (suc (suc (suc (suc (suc k))))))) a x y h = absurd (omega arith)

-- what is accepted has a scalar's kind
scalar_kind : (kind a : ℕ) (x : Scalar) → accepted x ≡ given_scalar kind a → kind ≤ 6
scalar_kind kind a x e =
    elim (dec_lt 6 kind) [
      | yes past ↦ absurd (let z : ◌≡◌ {A = ℕ} 0 1 = cc (e, kind_bad kind a past) in omega arith)
      | no low ↦ omega arith
    ]

-- ---- values

module _ (kind a : ℕ) where
  value_choice : (b : Bool) → eqb kind 15 ≡ b → elim b [ true ↦ accepted (slot a) | false ↦ of_answer (given_scalar kind a) (λ s. accepted (scalar s)) (λ r. refused r) ] ≡ given_value kind a
  unfolding given_value of_answer
  value_choice b e = rw (given_value, e)

  pub value_slot : kind ≡ 15 → accepted (slot a) ≡ given_value kind a
  value_slot e = value_choice true (eq-eqb kind 15 e)

  pub value_good : (kind ≡ 15 → ⊥) → accepted (scalar_from kind a) ≡ given_scalar kind a → accepted (value_from kind a) ≡ given_value kind a
  unfolding layout_rules of_answer
  value_good ne e =
      ap (λ (b : Bool). accepted (choose b (slot a) (scalar (scalar_from kind a)))) (ne_eqb kind 15 ne)
      ∙ ap (λ (x : Answer Scalar). of_answer {B = Answer cells.Value} x (λ s. accepted (scalar s)) (λ r. refused r)) e
      ∙ value_choice false (ne_eqb kind 15 ne)

  pub value_bad : (kind ≡ 15 → ⊥) → (r : Refusal) → refused r ≡ given_scalar kind a → refused r ≡ given_value kind a
  unfolding of_answer
  value_bad ne r e =
      ap (λ (x : Answer Scalar). of_answer {B = Answer cells.Value} x (λ s. accepted (scalar s)) (λ r. refused r)) e
      ∙ value_choice false (ne_eqb kind 15 ne)

-- ---- cells

-- a scalar's kind makes a cell of that scalar
plain_cell : (kind a b : ℕ) → kind ≤ 6 → cell_from kind a b ≡ plain (scalar_from kind a)
unfolding layout_rules
plain_cell zero a b h = refl
plain_cell (suc zero) a b h = refl
plain_cell (suc (suc zero)) a b h = refl
plain_cell (suc (suc (suc zero))) a b h = refl
plain_cell (suc (suc (suc (suc zero)))) a b h = refl
plain_cell (suc (suc (suc (suc (suc zero))))) a b h = refl
plain_cell (suc (suc (suc (suc (suc (suc zero)))))) a b h = refl
plain_cell (suc (suc (suc (suc (suc (suc (suc k))))))) a b h = absurd (omega arith)

module _ (kind a b : ℕ) where
  cell_choice : (t : Bool) → eqb kind 9 ≡ t → elim t [ true ↦ accepted (pair a b) | false ↦ of_answer (given_scalar kind a) (λ s. accepted (plain s)) (λ r. refused r) ] ≡ given_cell kind a b
  unfolding given_cell of_answer
  cell_choice t e = rw (given_cell, e)

  pub cell_pair : kind ≡ 9 → accepted (pair a b) ≡ given_cell kind a b
  cell_pair e = cell_choice true (eq-eqb kind 9 e)

  pub cell_good : (kind ≡ 9 → ⊥) → accepted (scalar_from kind a) ≡ given_scalar kind a → accepted (cell_from kind a b) ≡ given_cell kind a b
  unfolding of_answer
  cell_good ne e =
      ap accepted (plain_cell kind a b (scalar_kind kind a _ e))
      ∙ ap (λ (x : Answer Scalar). of_answer {B = Answer Cell} x (λ s. accepted (plain s)) (λ r. refused r)) e
      ∙ cell_choice false (ne_eqb kind 9 ne)

  pub cell_bad : (kind ≡ 9 → ⊥) → (r : Refusal) → refused r ≡ given_scalar kind a → refused r ≡ given_cell kind a b
  unfolding of_answer
  cell_bad ne r e =
      ap (λ (x : Answer Scalar). of_answer {B = Answer Cell} x (λ s. accepted (plain s)) (λ r. refused r)) e
      ∙ cell_choice false (ne_eqb kind 9 ne)

-- ---- slots in use

module _ (capacity : ℕ) (m : List ℕ) where
  -- a value that is no slot names none
  pub scalar_named : (v : cells.Value) → Plain v → true ≡ named capacity m v
  unfolding named
  scalar_named v p = sym (ap (named capacity m) p.is)

  -- nor does a cell that is no pair
  pub other_named : (c : VCell) → ((a d : ℕ) → c ≡ vcell.Pair a d → ⊥) → true ≡ cell_named capacity m (cell_of c)
  unfolding cell_named
  other_named vcell.Undefined n = refl
  other_named vcell.Nil n = refl
  other_named vcell.Eof n = refl
  other_named vcell.Void n = refl
  other_named (vcell.Bool b) n = refl
  other_named (vcell.Char x) n = refl
  other_named (vcell.Number x) n = refl
  other_named (vcell.Pair a d) n = absurd (n a d refl)
  other_named (vcell.Symbol p x) n = refl
  other_named (vcell.String p x) n = refl
  other_named (vcell.Vector p x) n = refl

  pub first_unused : (a d : ℕ) → used_slot capacity m a ≡ false → false ≡ cell_named capacity m (pair a d)
  unfolding cell_named
  first_unused a d e = sym (ap (λ (b : Bool). both b (used_slot capacity m d)) e)

  pub first_used : (a d : ℕ) (r : Bool) → used_slot capacity m a ≡ true → r ≡ used_slot capacity m d → r ≡ cell_named capacity m (pair a d)
  unfolding cell_named
  first_used a d r e p = p ∙ sym (ap (λ (b : Bool). both b (used_slot capacity m d)) e)

-- in a sound heap the lent map tells it
module _ (l : Lent) (s : sound l ≡ true) where
  pub in_use_lent : (i : ℕ) → in_use (heap_of l) i ≡ used_slot (get_or l.words 1 0) l.map i
  unfolding sound_rules layout_rules
  in_use_lent i =
      let c = clauses l s in
      in_use_is l (ground l c.numbers c.counts (growth_is l ∙ c.growth)) i

  pub value_used : (v : cells.Value) → named (get_or l.words 1 0) l.map v ≡ value_in_use (heap_of l) v
  unfolding named call_rules
  value_used (slot i) = sym (in_use_lent i)
  value_used (scalar x) = refl

  pub both_used : (v w : cells.Value) (t : Bool) → named (get_or l.words 1 0) l.map v ≡ t → both (value_in_use (heap_of l) v) (value_in_use (heap_of l) w) ≡ both t (named (get_or l.words 1 0) l.map w)
  both_used v w t e = sym ((λ j. both (sym e j) (value_used w j)) ∙ ap (λ (b : Bool). both b (value_in_use (heap_of l) w)) (value_used v))

  pub cell_used : (c : Cell) → cell_named (get_or l.words 1 0) l.map c ≡ cell_in_use (heap_of l) c
  unfolding cell_named call_rules
  cell_used (plain x) = refl
  cell_used (pair a d) = sym (λ j. both (in_use_lent a j) (in_use_lent d j))
  cell_used (symbol b) = refl
  cell_used (string b) = refl
  cell_used (vector b) = refl
