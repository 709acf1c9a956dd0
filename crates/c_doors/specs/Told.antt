-- What a caller at the C boundary is told of an answer of the rules: its number, 0 or the refusal's, and what was asked for,
-- written over what the caller lent for it; "A refusal answers its number only, and leaves heap and output as they stood", so
-- after a refusal what was lent is as it was. Document 01, "What a caller is told". Assumes nothing.
use Rattle.std.specs.Prelude.{◌≡◌, Bool, List, ℕ}
use Rattle.rules.specs.Refusals.{Answer, accepted, refused, told}
use Rattle.rules.specs.Cells.{Block, bit}
use Rattle.rules.specs.Layout.{Lent}
use Rattle.rules.specs.Calls.{Left, SetUp, ReadLeft, Stored, EqualLeft}

-- a number of what was asked for, or what stood there
unfoldable pub given {ℓ} : {A : Type 0} {B : Type ℓ} → (A → B) → Answer A → B → B
given f (accepted a) stood = f a
given f (refused r) stood = stood

-- an answer that is one number
pub record Told (a : Answer ℕ) (stood r n : ℕ) : Type 0 where
  pub number : r ≡ told a
  pub second : n ≡ given (λ x. x) a stood

-- an answer that is a block: its place and its size
pub record ToldBlock (a : Answer Block) (stood stood' r p n : ℕ) : Type 0 where
  pub number : r ≡ told a
  pub place_is : p ≡ given (λ b. b.place) a stood
  pub size_is : n ≡ given (λ b. b.size) a stood'

-- setup: the number and the lists that it leaves
pub record ToldSetup (x : SetUp) (r : ℕ) (after : Lent) : Type 0 where
  pub number : r ≡ told x.answer
  pub lent_is : after ≡ x.lent

-- put: the number, the lists, the scratch and the slot
pub record ToldPut (x : Left ℕ) (stood r : ℕ) (after : Lent) (end : List ℕ) (n : ℕ) : Type 0 where
  pub told_is : Told x.answer stood r n
  pub lent_is : after ≡ x.lent
  pub scratch_is : end ≡ x.scratch

-- read: the number, the scratch, the output and the length
pub record ToldRead (x : ReadLeft) (stood r : ℕ) (end out : List ℕ) (n : ℕ) : Type 0 where
  pub told_is : Told x.answer stood r n
  pub scratch_is : end ≡ x.scratch
  pub out_is : out ≡ x.out

-- collection: the number, the lists and the scratch
pub record ToldCollect (x : Left (Unit {0})) (r : ℕ) (after : Lent) (end : List ℕ) : Type 0 where
  pub number : r ≡ told x.answer
  pub lent_is : after ≡ x.lent
  pub scratch_is : end ≡ x.scratch

-- a store: the number and the lists
pub record ToldStore (x : Stored) (r : ℕ) (after : Lent) : Type 0 where
  pub number : r ≡ told x.answer
  pub lent_is : after ≡ x.lent

-- an answer that is yes or no: 1 or 0
pub record ToldTruth (a : Answer Bool) (stood r n : ℕ) : Type 0 where
  pub number : r ≡ told a
  pub second : n ≡ given bit a stood

-- `equal`: of what the rules allow, which is one outcome, the number, 1 or 0, and the scratch
pub record ToldEqual (call : EqualLeft → Type 0) (stood r : ℕ) (end : List ℕ) (n : ℕ) : Type 0 where
  pub outcome : EqualLeft
  pub by_rules : call outcome
  pub told_is : ToldTruth outcome.answer stood r n
  pub scratch_is : end ≡ outcome.scratch
