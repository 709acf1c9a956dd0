-- What a caller is told of an answer that is known, and what is told of equal answers. Assumes nothing.
use mathlib.Core.Path.{◌≡◌, refl, sym, ap, subst, ◌∙◌}
use mathlib.Core.Bool.{Bool}
use mathlib.Core.List.{List}
use Prim.Native.Nat.{ℕ}
use mir.Val.{bool_byte}
use Rattle.leaf_cells.proofs.KindLaws.{bool_word}
use Rattle.rules.specs.Refusals.{Refusal, Answer, accepted, refused, told, number_of}
use Rattle.rules.specs.Cells.{Block, block, bit}
use Rattle.rules.specs.Layout.{Lent}
use Rattle.rules.specs.Calls.{Left, left, SetUp, ReadLeft, Stored, stored, EqualLeft}
use Rattle.doors.specs.Answers.{set_up}
use Rattle.doors_read.specs.Answers.{read_left}
use Rattle.doors_equal.specs.Answers.{equal_left}
use Rattle.c_doors.specs.Told.{given, Told, ToldBlock, ToldSetup, ToldPut, ToldRead, ToldCollect, ToldStore, ToldTruth, ToldEqual}

-- ---- one number

module _ (a : Answer ℕ) (stood : ℕ) where
  pub told_number : (n : ℕ) → a ≡ accepted n → Told a stood 0 n
  unfolding told given
  told_number n e = record { number = ap told (sym e); second = ap (λ (x : Answer ℕ). given (λ y. y) x stood) (sym e) }

  pub told_refusal : (r : Refusal) (k : ℕ) → k ≡ number_of r → a ≡ refused r → Told a stood k stood
  unfolding told given
  told_refusal r k p e = record { number = p ∙ ap told (sym e); second = ap (λ (x : Answer ℕ). given (λ y. y) x stood) (sym e) }

  pub told_same : (b : Answer ℕ) (r n : ℕ) → a ≡ b → Told a stood r n → Told b stood r n
  told_same b r n e t = subst (λ (x : Answer ℕ). Told x stood r n) e t

-- ---- no more than the number

module _ (a : Answer (Unit {0})) where
  pub told_done : a ≡ accepted tt → 0 ≡ told a
  unfolding told
  told_done e = ap told (sym e)

  pub told_undone : (r : Refusal) (k : ℕ) → k ≡ number_of r → a ≡ refused r → k ≡ told a
  unfolding told
  told_undone r k p e = p ∙ ap told (sym e)

-- ---- a block

module _ (a : Answer Block) (stood stood' : ℕ) where
  pub told_block : (p n : ℕ) → a ≡ accepted (block p n) → ToldBlock a stood stood' 0 p n
  unfolding told given
  told_block p n e =
      record {
        number = ap told (sym e);
        place_is = ap (λ (x : Answer Block). given (λ b. b.place) x stood) (sym e);
        size_is = ap (λ (x : Answer Block). given (λ b. b.size) x stood') (sym e);
      }

  pub no_block : (r : Refusal) (k : ℕ) → k ≡ number_of r → a ≡ refused r → ToldBlock a stood stood' k stood stood'
  unfolding told given
  no_block r k p e =
      record {
        number = p ∙ ap told (sym e);
        place_is = ap (λ (x : Answer Block). given (λ b. b.place) x stood) (sym e);
        size_is = ap (λ (x : Answer Block). given (λ b. b.size) x stood') (sym e);
      }

  pub block_same : (b : Answer Block) (r p n : ℕ) → a ≡ b → ToldBlock a stood stood' r p n → ToldBlock b stood stood' r p n
  block_same b r p n e t = subst (λ (x : Answer Block). ToldBlock x stood stood' r p n) e t

-- ---- what a call leaves

pub told_setup : (x : SetUp) (a : Answer (Unit {0})) (after : Lent) (r : ℕ) → set_up a after ≡ x → r ≡ told a → ToldSetup x r after
told_setup x a after r e is =
    record { number = is ∙ ap (λ (y : SetUp). told y.answer) e; lent_is = ap (λ (y : SetUp). y.lent) e }

pub told_put : (x : Left ℕ) (a : Answer ℕ) (stood r : ℕ) (after : Lent) (end : List ℕ) (n : ℕ) → left a after end ≡ x → Told a stood r n → ToldPut x stood r after end n
told_put x a stood r after end n e t =
    record {
      told_is = told_same a stood x.answer r n (ap (λ (y : Left ℕ). y.answer) e) t;
      lent_is = ap (λ (y : Left ℕ). y.lent) e;
      scratch_is = ap (λ (y : Left ℕ). y.scratch) e;
    }

pub told_read : (x : ReadLeft) (a : Answer ℕ) (stood r : ℕ) (end out : List ℕ) (n : ℕ) → read_left a end out ≡ x → Told a stood r n → ToldRead x stood r end out n
told_read x a stood r end out n e t =
    record {
      told_is = told_same a stood x.answer r n (ap (λ (y : ReadLeft). y.answer) e) t;
      scratch_is = ap (λ (y : ReadLeft). y.scratch) e;
      out_is = ap (λ (y : ReadLeft). y.out) e;
    }

-- ---- the collection, the stores and eqv

pub told_collect : (x : Left (Unit {0})) (a : Answer (Unit {0})) (r : ℕ) (after : Lent) (end : List ℕ) → left a after end ≡ x → r ≡ told a → ToldCollect x r after end
told_collect x a r after end e is =
    record {
      number = is ∙ ap (λ (y : Left (Unit {0})). told y.answer) e;
      lent_is = ap (λ (y : Left (Unit {0})). y.lent) e;
      scratch_is = ap (λ (y : Left (Unit {0})). y.scratch) e;
    }

pub told_store : (x : Stored) (a : Answer (Unit {0})) (r : ℕ) (after : Lent) → stored a after ≡ x → r ≡ told a → ToldStore x r after
told_store x a r after e is =
    record { number = is ∙ ap (λ (y : Stored). told y.answer) e; lent_is = ap (λ (y : Stored). y.lent) e }

module _ (a : Answer Bool) (stood : ℕ) where
  pub told_truth : (t : Bool) (n : ℕ) → n ≡ bool_byte t → a ≡ accepted t → ToldTruth a stood 0 n
  unfolding told given
  told_truth t n p e =
      record { number = ap told (sym e); second = p ∙ bool_word t ∙ ap (λ (x : Answer Bool). given bit x stood) (sym e) }

  pub no_truth : (r : Refusal) (k : ℕ) → k ≡ number_of r → a ≡ refused r → ToldTruth a stood k stood
  unfolding told given
  no_truth r k p e = record { number = p ∙ ap told (sym e); second = ap (λ (x : Answer Bool). given bit x stood) (sym e) }

  pub truth_same : (b : Answer Bool) (r n : ℕ) → a ≡ b → ToldTruth a stood r n → ToldTruth b stood r n
  truth_same b r n e t = subst (λ (x : Answer Bool). ToldTruth x stood r n) e t

pub told_equal : (call : EqualLeft → Type 0) (a : Answer Bool) (stood r : ℕ) (end : List ℕ) (n : ℕ) → call (equal_left a end) → ToldTruth a stood r n → ToldEqual call stood r end n
told_equal call a stood r end n x t = record { outcome = equal_left a end; by_rules = x; told_is = t; scratch_is = refl }
