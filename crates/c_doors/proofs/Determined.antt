-- Each promise at the C boundary determines what the call does: two outcomes that both meet it on the same lists and numbers
-- at entry are the same number, the same lists and the same numbers lent for an answer, refusals too. A list lent only to read
-- stays as it is. Document 01, "Each public call's promise determines the answer and every lent byte afterwards". Assumes
-- nothing.
use mathlib.Core.Path.{◌≡◌, sym, ap, subst, ◌∙◌}
use mathlib.Core.List.{List}
use Prim.Native.Nat.{ℕ}
use Rattle.rules.specs.Refusals.{Answer}
use Rattle.rules.specs.Layout.{Lent}
use Rattle.rules.specs.Calls.{put_call, read_call, collect_call, Stored, cell_store, element_store, eqv_call, EqualLeft, EqualCall, setup, text_call, capacity_call, free_call, used_call}
use Rattle.doors_equal.proofs.Determined.{one_call}
use Rattle.c_doors.specs.Told.{Told, ToldBlock, ToldSetup, ToldPut, ToldRead, ToldCollect, ToldStore, ToldTruth, ToldEqual}

-- ---- any answer that is a number

module _ (a : Answer ℕ) (stood r r' n n' : ℕ) where
  pub told_determined : Told a stood r n → Told a stood r' n' → (r ≡ r') × (n ≡ n')
  told_determined one two = (one.number ∙ sym two.number, one.second ∙ sym two.second)

-- ---- the calls

module _ (chunk : ℕ) (l : Lent) (r r' : ℕ) (after after' : Lent) where
  pub setup_determined : ToldSetup (setup chunk l) r after → ToldSetup (setup chunk l) r' after' → (r ≡ r') × (after ≡ after')
  setup_determined one two = (one.number ∙ sym two.number, one.lent_is ∙ sym two.lent_is)

module _ (l : Lent) (scratch datum : List ℕ) (stood r r' : ℕ) (after after' : Lent) (end end' : List ℕ) (n n' : ℕ) where
  pub put_determined : ToldPut (put_call l scratch datum) stood r after end n → ToldPut (put_call l scratch datum) stood r' after' end' n' → ((r ≡ r') × (n ≡ n')) × (after ≡ after') × (end ≡ end')
  put_determined one two =
      (told_determined _ stood r r' n n' one.told_is two.told_is, one.lent_is ∙ sym two.lent_is, one.scratch_is ∙ sym two.scratch_is)

module _ (l : Lent) (scratch out : List ℕ) (kind a stood r r' : ℕ) (end end' after after' : List ℕ) (n n' : ℕ) where
  pub read_determined : ToldRead (read_call l scratch out kind a) stood r end after n → ToldRead (read_call l scratch out kind a) stood r' end' after' n' → ((r ≡ r') × (n ≡ n')) × (end ≡ end') × (after ≡ after')
  read_determined one two =
      (told_determined _ stood r r' n n' one.told_is two.told_is, one.scratch_is ∙ sym two.scratch_is, one.out_is ∙ sym two.out_is)

module _ (l : Lent) (scratch roots : List ℕ) (r r' : ℕ) (after after' : Lent) (end end' : List ℕ) where
  pub collect_determined : ToldCollect (collect_call l scratch roots) r after end → ToldCollect (collect_call l scratch roots) r' after' end' → (r ≡ r') × (after ≡ after') × (end ≡ end')
  collect_determined one two =
      (one.number ∙ sym two.number, one.lent_is ∙ sym two.lent_is, one.scratch_is ∙ sym two.scratch_is)

-- either store
module _ (x : Stored) (r r' : ℕ) (after after' : Lent) where
  store_determined : ToldStore x r after → ToldStore x r' after' → (r ≡ r') × (after ≡ after')
  store_determined one two = (one.number ∙ sym two.number, one.lent_is ∙ sym two.lent_is)

module _ (l : Lent) (r r' : ℕ) (after after' : Lent) where
  pub cell_store_determined : (s kind a b : ℕ) → ToldStore (cell_store l s kind a b) r after → ToldStore (cell_store l s kind a b) r' after' → (r ≡ r') × (after ≡ after')
  cell_store_determined s kind a b = store_determined (cell_store l s kind a b) r r' after after'

  pub element_store_determined : (s k kind a : ℕ) → ToldStore (element_store l s k kind a) r after → ToldStore (element_store l s k kind a) r' after' → (r ≡ r') × (after ≡ after')
  element_store_determined s k kind a = store_determined (element_store l s k kind a) r r' after after'

module _ (l : Lent) (kind a kind' a' stood r r' n n' : ℕ) where
  pub eqv_determined : ToldTruth (eqv_call l kind a kind' a') stood r n → ToldTruth (eqv_call l kind a kind' a') stood r' n' → (r ≡ r') × (n ≡ n')
  eqv_determined one two = (one.number ∙ sym two.number, one.second ∙ sym two.second)

module _ (l : Lent) (scratch : List ℕ) (kind a kind' a' stood r r' : ℕ) (end end' : List ℕ) (n n' : ℕ) where
  pub equal_determined : ToldEqual (EqualCall l scratch kind a kind' a') stood r end n → ToldEqual (EqualCall l scratch kind a kind' a') stood r' end' n' → ((r ≡ r') × (n ≡ n')) × (end ≡ end')
  equal_determined one two =
      let same = one_call one.outcome two.outcome l scratch kind a kind' a' one.by_rules two.by_rules in
      let told = subst (λ (x : EqualLeft). ToldTruth x.answer stood r n) same one.told_is in (
        (told.number ∙ sym two.told_is.number, told.second ∙ sym two.told_is.second),
        one.scratch_is ∙ ap (λ (x : EqualLeft). x.scratch) same ∙ sym two.scratch_is,
      )

module _ (l : Lent) (s stood stood' r r' p p' n n' : ℕ) where
  pub text_determined : ToldBlock (text_call l s) stood stood' r p n → ToldBlock (text_call l s) stood stood' r' p' n' → (r ≡ r') × (p ≡ p') × (n ≡ n')
  text_determined one two =
      (one.number ∙ sym two.number, one.place_is ∙ sym two.place_is, one.size_is ∙ sym two.size_is)

module _ (l : Lent) (stood r r' n n' : ℕ) where
  pub capacity_determined : Told (capacity_call l) stood r n → Told (capacity_call l) stood r' n' → (r ≡ r') × (n ≡ n')
  capacity_determined = told_determined (capacity_call l) stood r r' n n'

  pub free_determined : Told (free_call l) stood r n → Told (free_call l) stood r' n' → (r ≡ r') × (n ≡ n')
  free_determined = told_determined (free_call l) stood r r' n n'

  pub used_determined : Told (used_call l) stood r n → Told (used_call l) stood r' n' → (r ≡ r') × (n ≡ n')
  used_determined = told_determined (used_call l) stood r r' n n'
