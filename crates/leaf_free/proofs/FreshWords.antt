-- A fresh heap: zero words with a header and a first chunk's list are the rules' fresh heap, from which slots can be
-- taken. Document 01, "Fresh: the first slot given is 0, then 1". Assumes nothing.
use mathlib.Core.Path.{◌≡◌, refl, sym, ap, ◌∙◌, subst}
use mathlib.Core.List.{List, [], ◌∷◌, ◌++◌, append_assoc, append-nil}
use Prim.Native.Nat.{ℕ, zero, suc, ◌+◌, ◌-◌, ◌*◌, ◌/◌, ◌%◌, ◌≤◌}
use native.Mathlib.Omega.{arith}
use lib.ListN.{length, get_or, set, replicate, length-replicate}
use lib.Seq.{get_or-set_other}
use Rattle.laws.specs.Basics.{rising, zeros, basics}
use Rattle.laws.proofs.Lists.{length-zeros, get_or_zeros, length-rising}
use Rattle.laws.proofs.Zeros.{rising_last, rising_below}
use Rattle.rules.specs.Cells.{Cell, plain, undefined}
use Rattle.rules.specs.Heap.{Heap, fresh}
use Rattle.rules.specs.Layout.{header_words, words_of, cell_words, map_bytes, filled, layout_rules}
use Rattle.leaf_free.specs.FreeList.{fallen, fresh_words, CanStart}
use Rattle.rules.proofs.Growth.{Whole, one_whole}
use Rattle.rules.proofs.LentLaws.{filled_zeros}
use Rattle.leaf_free.proofs.Written.{Written, heads_of, rows_of, written_again, head_stored, rows_renamed}
use Rattle.leaf_free.proofs.FreeWords.{with_free, push_words, same_cells}
use Rattle.leaf_free.proofs.Allocating.{Growing}

-- the heap before the first slot is on its list
abbrev bare : ℕ → Heap
bare chunk =
    record {
      chunk = chunk;
      cells = replicate chunk (plain undefined);
      map = zeros (chunk / 4);
      free = [];
      table = [];
      bytes = [];
      elements = [];
    }

bare_rows : (chunk i k : ℕ) → rows_of (bare chunk) i k ≡ 0
unfolding layout_rules basics
bare_rows chunk i k =
    ap (λ (c : Cell). get_or (cell_words c ++ (0 ∷ 0 ∷ 0 ∷ 0 ∷ 0 ∷ [])) k 0) (same_cells chunk [] i) ∙ get_or_zeros 8 k

zero_words : (slots : ℕ) → Written slots (λ (k : ℕ). get_or (zeros 8) k 0) (λ (i k : ℕ). 0) (zeros (8 + 8 * slots))
zero_words slots =
    record {
      size = length-zeros (8 + 8 * slots);
      heads = λ k low. get_or_zeros (8 + 8 * slots) k ∙ sym (get_or_zeros 8 k);
      rows = λ i k small narrow. get_or_zeros (8 + 8 * slots) (8 + 8 * i + k);
    }

bare_words : (slots chunk : ℕ) → set (set (set (zeros (8 + 8 * slots)) 0 chunk) 1 chunk) 6 1 ≡ words_of slots (bare chunk)
unfolding header_words basics
bare_words slots chunk =
    let a = zeros 8 in
    let b = set a 0 chunk in
    let d = set b 1 chunk in
    let first : Written slots (λ (k : ℕ). get_or b k 0) (λ (i k : ℕ). 0) (set (zeros (8 + 8 * slots)) 0 chunk) =
    head_stored (zero_words slots) 0 chunk (omega arith) (λ (k : ℕ). get_or b k 0) refl
    (λ j d. get_or-set_other a 0 j chunk 0 d)
    in
    let second : Written slots (λ (k : ℕ). get_or d k 0) (λ (i k : ℕ). 0) (set (set (zeros (8 + 8 * slots)) 0 chunk) 1 chunk) =
    head_stored first 1 chunk (omega arith) (λ (k : ℕ). get_or d k 0) refl (λ j q. get_or-set_other b 1 j chunk 0 q)
    in
    let same : (k : ℕ) → get_or (header_words (bare chunk)) k 0 ≡ get_or (set d 6 1) k 0 = λ k i.
    get_or (chunk ∷ length-replicate chunk (plain undefined) i ∷ 0 ∷ 0 ∷ 0 ∷ 0 ∷ 1 ∷ 0 ∷ []) k 0
    in
    written_again slots (bare chunk) _
    (rows_renamed
    (head_stored second 6 1 (omega arith) (heads_of (bare chunk)) (same 6) (λ j q. same j ∙ get_or-set_other d 6 j 1 0 q))
    (rows_of (bare chunk)) (bare_rows chunk))

fallen_words : (n slots : ℕ) (h : Heap) → length h.free + n ≤ slots → fallen (words_of slots h) n ≡ words_of slots (with_free h (rising 0 n ++ h.free))
unfolding fallen basics
fallen_words zero slots h room = refl
fallen_words (suc n) slots h room =
    let e : 0 + n ≡ n = omega arith in
    (λ i. fallen (push_words slots h n (omega arith) i) n) ∙ fallen_words n slots (with_free h (n ∷ h.free)) (omega arith)
    ∙ ap (λ (l : List ℕ). words_of slots (with_free h l))
    (sym (append_assoc (rising 0 n) (n ∷ []) h.free)
    ∙ ap (λ (l : List ℕ). l ++ h.free) (ap (λ (m : ℕ). rising 0 n ++ (m ∷ [])) (sym e) ∙ sym (rising_last 0 n)))

module _ (slots chunk : ℕ) (small : chunk ≤ slots) where
  pub can_start : CanStart (zeros (8 + 8 * slots)) chunk
  can_start =
      let long = length-zeros (8 + 8 * slots) in
      let none = get_or_zeros (8 + 8 * slots) 2 in
      record { header = omega arith; rows = omega arith }

  -- the code's fresh words are the rules' fresh heap
  pub fresh_given : fresh_words (zeros (8 + 8 * slots)) chunk ≡ words_of slots (fresh chunk)
  unfolding fresh_words fresh layout_rules
  fresh_given =
      (λ i. fallen (bare_words slots chunk i) chunk) ∙ fallen_words chunk slots (bare chunk) (omega arith)
      ∙ ap (λ (l : List ℕ). words_of slots (with_free (bare chunk) l)) (append-nil (rising 0 chunk))

  -- and its lent map is all zero
  pub fresh_map : chunk % 4 ≡ 0 → filled (map_bytes slots) (fresh chunk).map ≡ zeros (map_bytes slots)
  unfolding fresh map_bytes filled
  fresh_map fours =
      filled_zeros ((slots + 3) / 4) [] (chunk / 4) (omega arith)
      ∙ (let e : (slots + 3) / 4 - 0 ≡ (slots + 3) / 4 = omega arith in ap zeros e)

  pub fresh_growing : slots ≤ 4096 → 4 ≤ chunk → chunk % 4 ≡ 0 → Growing slots (fresh chunk)
  unfolding fresh
  fresh_growing few least fours =
      let size = length-replicate chunk (plain undefined) in
      record {
        slots_small = few;
        chunk_least = least;
        chunk_fours = fours;
        chunk_within = small;
        whole = subst (λ (n : ℕ). Whole chunk n) (sym size) (one_whole chunk);
        some = omega arith;
        within = omega arith;
        map-size = length-zeros (chunk / 4) ∙ ap (λ (n : ℕ). n / 4) (sym size);
        free_size = omega (arith, length-rising 0 chunk);
        free_below = rising_below 0 chunk (length (replicate chunk (plain undefined))) (omega arith);
      }
