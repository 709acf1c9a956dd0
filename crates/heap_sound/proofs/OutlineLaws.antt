-- The outline's clauses, as the functions answer them. Assumes nothing.
use mathlib.Core.Path.{◌≡◌, refl, sym, ap, ◌∙◌}
use mathlib.Core.Bool.{Bool, true, false}
use Prim.Native.Nat.{ℕ, ◌*◌, ◌/◌, ◌%◌}
use native.Mathlib.Omega.{arith}
use borrow.Author.Tests.{ltb-true}
use lib.Dec.{ltb}
use lib.ListN.{length, get_or, take}
use lib.Seq.{length-take-le, get_or-take}
use Rattle.laws.specs.Basics.{both, either, every_below}
use Rattle.rules.specs.Map.{state_in, state_of, is_allocated, map_rules}
use Rattle.rules.specs.Heap.{capacity, reaches, most_growths, in_use}
use Rattle.rules.specs.Layout.{Lent, heap_of}
use Rattle.rules.specs.Sound.{capacity_grown, states_settled, free_once, free_undefined, setup_numbers, counts_within, sound_rules}
use Rattle.rules.proofs.SoundLaws.{grown_whole}
use Rattle.heap_sound_rows.specs.Rows.{settled}
use Rattle.heap_sound_rows.proofs.NumberLaws.{Numbers, Counts, numbers_told, counts_told}
use Rattle.heap_sound_rows.proofs.HeapFacts.{cells_length}
use Rattle.heap_sound_free.specs.Marks.{free_sound}
use Rattle.heap_sound_cells.specs.Looked.{used_slot}
use Rattle.heap_sound_table.specs.Entries.{Decided}
use Rattle.laws.proofs.Tests.{true≢false, both_left, both_right, both_true}
use Rattle.rules.specs.Sound.{written_out}
use Rattle.heap_sound.specs.Parts.{Outline}

module _ (l : Lent) where
  pub growth_is : reaches most_growths (get_or l.words 0 0) (get_or l.words 1 0) (get_or l.words 0 0) ≡ capacity_grown (heap_of l)
  unfolding sound_rules heap_of
  growth_is = ap (λ (n : ℕ). reaches most_growths (get_or l.words 0 0) n (get_or l.words 0 0)) (sym (cells_length l))

  -- what every later test may assume
  pub record Ground : Type 0 where
    pub numbers : Numbers (get_or l.words 0 0) l
    pub counts : Counts l
    pub fours : get_or l.words 1 0 % 4 ≡ 0

  pub ground : setup_numbers (get_or l.words 0 0) l ≡ true → counts_within l ≡ true
      → reaches most_growths (get_or l.words 0 0) (get_or l.words 1 0) (get_or l.words 0 0) ≡ true → Ground
  ground n c g =
      let a = numbers_told (get_or l.words 0 0) l n in
      record {
        numbers = a;
        counts = counts_told l c;
        fours = grown_whole most_growths (get_or l.words 0 0) (get_or l.words 1 0) (get_or l.words 0 0) a.fours a.fours g;
      }

  module _ (g : Ground) where
    map_whole : 4 * length (take (get_or l.words 1 0 / 4) l.map) ≡ capacity (heap_of l)
    map_whole =
        omega (
          arith,
          cells_length l,
          g.fours,
          length-take-le (get_or l.words 1 0 / 4) l.map (omega (arith, g.numbers.map, g.counts.capacity)),
        )

    pub states_are : settled (take (get_or l.words 1 0 / 4) l.map) ≡ states_settled (heap_of l)
    unfolding sound_rules settled heap_of
    states_are =
        ap
        (λ (n : ℕ).
        every_below n
        (λ s.
        either (Rattle.heap_sound_rows.specs.Rows.is_zero (state_of (take (get_or l.words 1 0 / 4) l.map) s))
        (is_allocated (take (get_or l.words 1 0 / 4) l.map) s)))
        map_whole

    pub free_is : free_sound l.words l.map ≡ both (free_once (heap_of l)) (free_undefined (heap_of l))
    unfolding sound_rules heap_of
    free_is = refl

    -- a slot in use
    pub in_use_is : (s : ℕ) → in_use (heap_of l) s ≡ used_slot (get_or l.words 1 0) l.map s
    unfolding used_slot map_rules heap_of
    in_use_is s =
        ap (λ (n : ℕ). both (ltb s n) (is_allocated (take (get_or l.words 1 0 / 4) l.map) s)) (cells_length l)
        ∙ under (ltb s (get_or l.words 1 0)) refl
      where
        under : (b : Bool) → ltb s (get_or l.words 1 0) ≡ b → both b (is_allocated (take (get_or l.words 1 0 / 4) l.map) s) ≡ both b (is_allocated l.map s)
        under true e =
            let h = ltb-true s (get_or l.words 1 0) e in
            ap (λ (b : ℕ). lib.Dec.eqb (state_in b (s % 4)) 1) (get_or-take (get_or l.words 1 0 / 4) l.map (s / 4) 0 (omega (arith, g.fours)))
        under false e = refl

-- ---- decided

pub no_outline : (l : Lent) → (Outline l → ⊥) → Decided (Outline l) false
no_outline l n = record { holds = λ t. absurd (true≢false (sym t)); fails = λ _ o. n o }

module _ (l : Lent) (n : setup_numbers (get_or l.words 0 0) l ≡ true) (c : counts_within l ≡ true)
    (g : reaches most_growths (get_or l.words 0 0) (get_or l.words 1 0) (get_or l.words 0 0) ≡ true) where
  pub outline_unsettled : settled (take (get_or l.words 1 0 / 4) l.map) ≡ false → Decided (Outline l) false
  outline_unsettled e = no_outline l (λ o. true≢false (sym o.states ∙ sym (states_are l (ground l n c g)) ∙ e))

  pub outline_decided : written_out l ≡ true → settled (take (get_or l.words 1 0 / 4) l.map) ≡ true → (r : Bool) → r ≡ free_sound l.words l.map
      → Decided (Outline l) r
  outline_decided w s r e =
      let f = e ∙ free_is l (ground l n c g) in
      record {
        holds = λ t.
            record {
              numbers = n;
              counts = c;
              growth = sym (growth_is l) ∙ g;
              states = sym (states_are l (ground l n c g)) ∙ s;
              free_list = both_left (free_once (heap_of l)) _ (sym f ∙ t);
              free_cells = both_right (free_once (heap_of l)) _ (sym f ∙ t);
              spare = w;
            };
        fails = λ t o. true≢false (sym (both_true o.free_list o.free_cells) ∙ sym f ∙ t);
      }
