-- Cells and values by their kinds. Assumes nothing.
use mathlib.Core.Path.{◌≡◌, refl, sym, ap, ◌∙◌}
use mathlib.Core.Bool.{Bool, true, false}
use mathlib.Core.List.{List}
use Prim.Native.Nat.{ℕ, zero, suc, ◌+◌, ◌*◌}
use borrow.Author.Tests.{ne_eqb}
use lib.Dec.{eqb, leb}
use lib.ListN.{get_or}
use Rattle.laws.specs.Basics.{choose, both}
use Rattle.rules.specs.Cells.{slot, scalar}
use Rattle.rules.specs.Utf8.{scalar_value}
use Rattle.rules.specs.Layout.{cell_from, value_from, scalar_from, layout_rules}
use Rattle.rules.specs.Sound.{scalar_allowed, value_allowed, sound_rules}
use Rattle.heap_sound_rows.specs.Rows.{word}
use Rattle.heap_sound_cells.specs.Looked.{used_slot, plain_good, plain_at, named}

module _ (capacity : ℕ) (m : List ℕ) (k a b : ℕ) where
  pub char_good : k ≡ 5 → scalar_value a ≡ plain_good capacity m (cell_from k a b)
  unfolding plain_good layout_rules sound_rules
  char_good e = ap (λ (n : ℕ). plain_good capacity m (cell_from n a b)) (sym e)

  pub string_good : k ≡ 7 → leb b 4096 ≡ plain_good capacity m (cell_from k a b)
  unfolding plain_good layout_rules
  string_good e = ap (λ (n : ℕ). plain_good capacity m (cell_from n a b)) (sym e)

  pub symbol_good : k ≡ 8 → leb b 255 ≡ plain_good capacity m (cell_from k a b)
  unfolding plain_good layout_rules
  symbol_good e = ap (λ (n : ℕ). plain_good capacity m (cell_from n a b)) (sym e)

  pub pair_good : (r : Bool) → k ≡ 9 → r ≡ both (used_slot capacity m a) (used_slot capacity m b) → r ≡ plain_good capacity m (cell_from k a b)
  unfolding plain_good layout_rules
  pair_good r e p = p ∙ ap (λ (n : ℕ). plain_good capacity m (cell_from n a b)) (sym e)

  pub vector_good : k ≡ 10 → leb b 1024 ≡ plain_good capacity m (cell_from k a b)
  unfolding plain_good layout_rules
  vector_good e = ap (λ (n : ℕ). plain_good capacity m (cell_from n a b)) (sym e)

  pub other_good : (k ≡ 5 → ⊥) → (k ≡ 7 → ⊥) → (k ≡ 8 → ⊥) → (k ≡ 9 → ⊥) → (k ≡ 10 → ⊥) → true ≡ plain_good capacity m (cell_from k a b)
  unfolding plain_good layout_rules sound_rules
  other_good d5 d7 d8 d9 d10 = by k d5 d7 d8 d9 d10
    where
      by : (k : ℕ) → (k ≡ 5 → ⊥) → (k ≡ 7 → ⊥) → (k ≡ 8 → ⊥) → (k ≡ 9 → ⊥) → (k ≡ 10 → ⊥) → true ≡ plain_good capacity m (cell_from k a b)
      by zero d5 d7 d8 d9 d10 = refl
      by (suc zero) d5 d7 d8 d9 d10 = refl
      by (suc (suc zero)) d5 d7 d8 d9 d10 = refl
      by (suc (suc (suc zero))) d5 d7 d8 d9 d10 = refl
      by (suc (suc (suc (suc zero)))) d5 d7 d8 d9 d10 = refl
      by (suc (suc (suc (suc (suc zero))))) d5 d7 d8 d9 d10 = absurd (d5 refl)
      by (suc (suc (suc (suc (suc (suc zero)))))) d5 d7 d8 d9 d10 = refl
      by (suc (suc (suc (suc (suc (suc (suc zero))))))) d5 d7 d8 d9 d10 = absurd (d7 refl)
      by (suc (suc (suc (suc (suc (suc (suc (suc zero)))))))) d5 d7 d8 d9 d10 = absurd (d8 refl)
      by (suc (suc (suc (suc (suc (suc (suc (suc (suc zero))))))))) d5 d7 d8 d9 d10 = absurd (d9 refl)
      by (suc (suc (suc (suc (suc (suc (suc (suc (suc (suc zero)))))))))) d5 d7 d8 d9 d10 = absurd (d10 refl)
      by (suc (suc (suc (suc (suc (suc (suc (suc (suc (suc (suc k))))))))))) d5 d7 d8 d9 d10 = refl

pub plain_is : (ws m : List ℕ) (capacity i : ℕ)
    → plain_good capacity m (cell_from (get_or ws (8 + 8 * i) 0) (word ws i 1) (word ws i 2)) ≡ plain_at ws m capacity i
unfolding plain_at
plain_is ws m capacity i = refl

-- ---- values

module _ (k a : ℕ) where
  pub char_allowed : k ≡ 5 → scalar_value a ≡ value_allowed (value_from k a)
  unfolding layout_rules sound_rules
  char_allowed e = ap (λ (n : ℕ). value_allowed (value_from n a)) (sym e)

  pub other_allowed : (k ≡ 5 → ⊥) → true ≡ value_allowed (value_from k a)
  unfolding layout_rules sound_rules
  other_allowed d = pick (eqb k 15)
    where
      by : (k : ℕ) → (k ≡ 5 → ⊥) → true ≡ scalar_allowed (scalar_from k a)
      by zero d = refl
      by (suc zero) d = refl
      by (suc (suc zero)) d = refl
      by (suc (suc (suc zero))) d = refl
      by (suc (suc (suc (suc zero)))) d = refl
      by (suc (suc (suc (suc (suc zero))))) d = absurd (d refl)
      by (suc (suc (suc (suc (suc (suc zero)))))) d = refl
      by (suc (suc (suc (suc (suc (suc (suc k))))))) d = refl

      pick : (t : Bool) → true ≡ value_allowed (choose t (slot a) (scalar (scalar_from k a)))
      pick true = refl
      pick false = by k d

  module _ (capacity : ℕ) (m : List ℕ) where
    pub slot_named : k ≡ 15 → used_slot capacity m a ≡ named capacity m (value_from k a)
    unfolding named layout_rules
    slot_named e = ap (λ (n : ℕ). named capacity m (value_from n a)) (sym e)

    pub scalar_named : (k ≡ 15 → ⊥) → true ≡ named capacity m (value_from k a)
    unfolding named value_from
    scalar_named d =
        ap (λ (t : Bool). named capacity m (choose t (slot a) (scalar (scalar_from k a)))) (sym (ne_eqb k 15 d))
