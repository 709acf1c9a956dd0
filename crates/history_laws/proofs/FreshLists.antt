-- After an accepted setup no slot is in use. Document 01: "A fresh heap is sound". Assumes nothing.
use mathlib.Core.Path.{◌≡◌, refl, sym, ap, ◌∙◌}
use mathlib.Core.Bool.{Bool, true, false}
use Prim.Native.Nat.{ℕ, ◌%◌, ◌≤◌}
use native.Mathlib.Omega.{arith}
use borrow.Author.Tests.{leb-true, eqb-true}
use lib.Dec.{eqb, leb}
use lib.ListN.{length-replicate}
use Rattle.laws.specs.Basics.{between}
use Rattle.laws.proofs.Tests.{both_left, both_right}
use Rattle.laws.proofs.Lists.{count_rising_in}
use Rattle.rules.specs.Numbers.{numbers}
use Rattle.rules.specs.Refusals.{accepted}
use Rattle.rules.specs.Cells.{undefined, plain}
use Rattle.rules.specs.Heap.{Heap, in_use, fresh, heap_rules}
use Rattle.rules.specs.Layout.{Lent, rooms_of, heap_of, lent_of}
use Rattle.rules.specs.Sound.{setup_numbers, sound}
use Rattle.rules.specs.Calls.{SetUp, setup}
use Rattle.rules.proofs.LentLaws.{heap_lent}
use Rattle.rules.proofs.SoundLaws.{numbered, setup_sound, setup_refuses}
use Rattle.rules.proofs.Good.{used_slot}
use Rattle.rules.proofs.GoodSound.{good_fits, fresh_good}
use Rattle.history_laws.proofs.AcceptedPut.{not_refused}

fresh_none : (chunk : ℕ) → 4 ≤ chunk → chunk % 4 ≡ 0 → (s : ℕ) → in_use (fresh chunk) s ≡ true → ⊥
unfolding heap_rules
fresh_none chunk least fours s e =
    let u = used_slot (fresh chunk) s e in
    let size = length-replicate chunk (plain undefined) in
    omega (arith, u.state, (fresh_good chunk least fours).once s u.below, count_rising_in 0 chunk s (omega arith) (omega (arith, u.below)))

-- what an accepted setup leaves
pub record Fresh (x : SetUp) : Type 0 where
  pub lists_sound : sound x.lent ≡ true
  pub none_used : (s : ℕ) → in_use (heap_of x.lent) s ≡ true → ⊥

module _ (chunk : ℕ) (l : Lent) (n : setup_numbers chunk l ≡ true) where
  setup_lent : (setup chunk l).lent ≡ lent_of (rooms_of l) (fresh chunk)
  unfolding setup
  setup_lent = rw (n, setup)

  setup_fresh : Fresh (setup chunk l)
  unfolding numbers heap_rules
  setup_fresh =
      let allowed = (numbered chunk l n).allowed in
      let range = both_right (eqb (chunk % 4) 0) _ allowed in
      let least = leb-true 4 chunk (both_left (leb 4 chunk) _ (both_left (between 4 4096 chunk) _ range)) in
      let fours = eqb-true (chunk % 4) 0 (both_left (eqb (chunk % 4) 0) _ allowed) in
      let most = leb-true chunk (rooms_of l).slots (both_right (between 4 4096 chunk) _ range) in
      let size = length-replicate chunk (plain undefined) in
      let fits = good_fits (rooms_of l) (fresh chunk) (fresh_good chunk least fours) (omega arith) (omega arith) (omega arith) in
      record {
        lists_sound = setup_sound chunk l n;
        none_used = λ s e. fresh_none chunk least fours s (ap (λ (h : Heap). in_use h s) (sym (ap heap_of setup_lent ∙ heap_lent (rooms_of l) (fresh chunk) fits)) ∙ e);
      }

pub fresh_lists : (chunk : ℕ) (l : Lent) → (setup chunk l).answer ≡ accepted tt → Fresh (setup chunk l)
fresh_lists chunk l e = by (setup_numbers chunk l) refl
  where
    by : (b : Bool) → setup_numbers chunk l ≡ b → Fresh (setup chunk l)
    by true n = setup_fresh chunk l n
    by false n = absurd (not_refused (sym (setup_refuses chunk l n).0 ∙ e))
