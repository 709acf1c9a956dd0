-- A run of words or bytes written into a list, and new blocks in the rooms in use, which words 4 and 5 of the header count. Assumes
-- nothing.
use Rattle.std.specs.Prelude.{◌≡◌, List, ℕ, ◌+◌, eqb, length, get_or, set}
use Rattle.std.proofs.lemmas.List.Edits.{sets}
use Rattle.laws.specs.Basics.{choose}

-- the list with these written over what stood from a place on
unfoldable pub stored {ℓ} : {A : Type ℓ} → List A → ℕ → List A → List A
stored l at new = sets l at new

-- the words with a count raised
unfoldable pub raised : List ℕ → ℕ → ℕ → List ℕ
raised ws k n = set ws k (get_or ws k 0 + n)

-- where a block of n begins after so much room in use: "an empty one at place 0"
unfoldable pub new_place : ℕ → ℕ → ℕ
new_place end n = choose (eqb n 0) 0 end

-- a block of n is reserved by the count in word k
pub record Reserved (before after : List ℕ) (k n place : ℕ) : Type 0 where
  pub words : after ≡ raised before k n
  pub at : place ≡ new_place (get_or before k 0) n

-- a text is written at the end of the bytes in use
pub record Appended (words_before words_after bytes_before bytes_after text : List ℕ) (place : ℕ) : Type 0 where
  pub words : words_after ≡ raised words_before 4 (length text)
  pub bytes : bytes_after ≡ stored bytes_before (get_or words_before 4 0) text
  pub at : place ≡ new_place (get_or words_before 4 0) (length text)
