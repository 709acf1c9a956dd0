-- Single stores into the lent words: words that hold a header and rows hold them with one word changed after a store. So
-- a step on the words is tied to a step on the heap by saying which word the heap's step changes. Assumes nothing.
use mathlib.Core.Path.{◌≡◌, sym, ap, ◌∙◌}
use mathlib.Core.List.{List}
use Prim.Native.Nat.{ℕ, ◌+◌, ◌*◌, ◌<◌}
use native.Mathlib.Omega.{arith}
use native.Mathlib.Decide.{ℕ_discrete}
use lib.ListN.{length, get_or, set, length-set, get_or-append}
use lib.Seq.{get_or-set_same, get_or-set_other}
use Rattle.laws.specs.Basics.{join, rising}
use Rattle.rules.specs.Heap.{Heap}
use Rattle.rules.specs.Layout.{header_words, row_words, words_of, layout_rules}
use Rattle.rules.proofs.LentLaws.{words_length, word_at, words_again}

-- the words are a header, word k of it H k, and rows, word k of row i R i k
pub record Written (slots : ℕ) (H : ℕ → ℕ) (R : ℕ → ℕ → ℕ) (ws : List ℕ) : Type 0 where
  pub size : length ws ≡ 8 + 8 * slots
  pub heads : (k : ℕ) → k < 8 → get_or ws k 0 ≡ H k
  pub rows : (i k : ℕ) → i < slots → k < 8 → get_or ws (8 + 8 * i + k) 0 ≡ R i k

abbrev pub heads_of : Heap → ℕ → ℕ
heads_of h k = get_or (header_words h) k 0

abbrev pub rows_of : Heap → ℕ → ℕ → ℕ
rows_of h i k = get_or (row_words h i) k 0

-- a heap's words
pub written : (slots : ℕ) (h : Heap) → Written slots (heads_of h) (rows_of h) (words_of slots h)
unfolding layout_rules
written slots h =
    record {
      size = words_length slots h;
      heads = λ k low. get_or-append (header_words h) (join (row_words h) (rising 0 slots)) 0 k low;
      rows = word_at slots h;
    }

pub written_again : (slots : ℕ) (h : Heap) (ws : List ℕ) → Written slots (heads_of h) (rows_of h) ws → ws ≡ words_of slots h
written_again slots h ws w = words_again slots h ws w.size w.heads w.rows

module _ {slots : ℕ} {H : ℕ → ℕ} {R : ℕ → ℕ → ℕ} {ws : List ℕ} (w : Written slots H R ws) where
  -- a word of the header is stored
  pub head_stored : (k v : ℕ) → k < 8 → (H' : ℕ → ℕ) → H' k ≡ v → ((j : ℕ) → (j ≡ k → ⊥) → H' j ≡ H j) → Written slots H' R (set ws k v)
  head_stored k v low H' here others =
      let long = w.size in
      record {
        size = length-set ws k v ∙ long;
        heads = λ j small.
            elim (ℕ_discrete j k) [
              | yes e ↦ ap (λ (n : ℕ). get_or (set ws k v) n 0) e ∙ get_or-set_same ws k v 0 (omega arith) ∙ sym here ∙ ap H' (sym e)
              | no d ↦ get_or-set_other ws k j v 0 d ∙ w.heads j small ∙ sym (others j d)
            ];
        rows = λ i j small narrow. get_or-set_other ws k (8 + 8 * i + j) v 0 (λ e. omega arith) ∙ w.rows i j small narrow;
      }

  -- word k of row i is stored
  pub row_stored : (i k v : ℕ) → i < slots → k < 8 → (R' : ℕ → ℕ → ℕ) → R' i k ≡ v → ((j l : ℕ) → l < 8 → (j ≡ i → l ≡ k → ⊥) → R' j l ≡ R j l) → Written slots H R' (set ws (8 + 8 * i + k) v)
  row_stored i k v inside low R' here others =
      let long = w.size in
      let at = 8 + 8 * i + k in
      record {
        size = length-set ws at v ∙ long;
        heads = λ j small. get_or-set_other ws at j v 0 (λ e. omega arith) ∙ w.heads j small;
        rows = λ j l small narrow.
            elim (ℕ_discrete (8 + 8 * j + l) at) [
              | yes e ↦
                  let row : j ≡ i = omega arith in
                  let column : l ≡ k = omega arith in
                  ap (λ (n : ℕ). get_or (set ws at v) n 0) e ∙ get_or-set_same ws at v 0 (omega arith) ∙ sym here
                  ∙ (λ x. R' (sym row x) (sym column x))
              | no d ↦
                  get_or-set_other ws at (8 + 8 * j + l) v 0 d ∙ w.rows j l small narrow
                  ∙ sym (others j l narrow (λ p q. d (λ x. 8 + 8 * p x + q x)))
            ];
      }

  -- the same rows under another name
  pub rows_renamed : (R' : ℕ → ℕ → ℕ) → ((i k : ℕ) → R' i k ≡ R i k) → Written slots H R' ws
  rows_renamed R' same =
      record { size = w.size; heads = w.heads; rows = λ i k small narrow. w.rows i k small narrow ∙ sym (same i k) }
