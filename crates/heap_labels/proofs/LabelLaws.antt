-- Labels by their places in the words. Assumes nothing.
use mathlib.Core.Path.{◌≡◌, refl, sym, ap, ◌∙◌}
use mathlib.Core.Bool.{Bool, true, false}
use mathlib.Core.List.{List, [], ◌∷◌, ◌++◌}
use mathlib.Core.Option.{Option, none, some}
use Prim.Native.Nat.{ℕ, zero, suc, ◌+◌, ◌*◌, ◌≤◌, ◌<◌}
use native.Mathlib.Omega.{arith}
use borrow.Author.Tests.{eq-eqb, ne_eqb}
use lib.Dec.{eqb}
use lib.ListN.{length, get_or, set, length-set, length-map}
use lib.Seq.{ext_get_or, get_or-set_same, get_or-set_other}
use Rattle.laws.specs.Basics.{choose, find, rising, basics}
use Rattle.laws.proofs.Lists.{length-rising, get_or_map_rising}
use Rattle.rules.specs.Put.{Label, with_label, slot_of, put_rules}
use Rattle.heap_labels.specs.Labels.{label_at, labels_in, index_of, Defined}

abbrev no_label : Label
no_label = record { label = 0; slot = 0 }

pub labels_length : (ws : List ℕ) (n : ℕ) → length (labels_in ws n) ≡ n
unfolding labels_in
labels_length ws n = length-map (rising 0 n) (label_at ws) ∙ length-rising 0 n

pub get_or_labels : (ws : List ℕ) (n i : ℕ) → i < n → get_or (labels_in ws n) i no_label ≡ label_at ws i
unfolding labels_in
get_or_labels ws n i h = get_or_map_rising (label_at ws) 0 n i no_label h ∙ ap (label_at ws) (native.Mathlib.Nat.zero-add i)

-- ---- an index by what stands before it and at it

pub index_is : (l : ℕ) (ls : List Label) (i : ℕ) → i ≤ length ls → ((k : ℕ) → k < i → (get_or ls k no_label).label ≡ l → ⊥) → (i < length ls → (get_or ls i no_label).label ≡ l) → index_of l ls ≡ i
unfolding index_of
index_is l [] i h before at = omega arith
index_is l (x ∷ xs) zero h before at = ap (λ (b : Bool). choose b 0 (suc (index_of l xs))) (eq-eqb x.label l (at (omega arith)))
index_is l (x ∷ xs) (suc i) h before at =
    ap (λ (b : Bool). choose b 0 (suc (index_of l xs))) (ne_eqb x.label l (before 0 (omega arith)))
    ∙ ap suc (index_is l xs i (omega arith) (λ k small. before (suc k) (omega arith)) (λ small. at (omega arith)))

pub index_most : (l : ℕ) (ls : List Label) → index_of l ls ≤ length ls
unfolding index_of
index_most l [] = omega arith
index_most l (x ∷ xs) = go (eqb x.label l) (index_most l xs)
  where
    go : (b : Bool) → index_of l xs ≤ length xs → choose b 0 (suc (index_of l xs)) ≤ suc (length xs)
    go true h = omega arith
    go false h = omega arith

-- ---- the slot of a label, and a new definition, by the index

pub slot_by_index : (l : ℕ) (ls : List Label) → slot_of l ls ≡ (get_or ls (index_of l ls) no_label).slot
unfolding put_rules index_of basics
slot_by_index l [] = refl
slot_by_index l (x ∷ xs) = go (eqb x.label l) (slot_by_index l xs)
  where
    go : (b : Bool) → slot_of l xs ≡ (get_or xs (index_of l xs) no_label).slot → elim (elim b as (λ b. Option Label) [ true ↦ some x | false ↦ find (λ (x : Label). eqb x.label l) xs ]) as (λ o. ℕ) [ none ↦ 0 | some x ↦ x.slot ] ≡ (get_or (x ∷ xs) (choose b 0 (suc (index_of l xs))) no_label).slot
    go true h = refl
    go false h = h

abbrev entry : ℕ → ℕ → Label
entry l s = record { label = l; slot = s }

pub with_old : (l s : ℕ) (ls : List Label) → index_of l ls < length ls → with_label l s ls ≡ set ls (index_of l ls) (entry l s)
unfolding put_rules index_of
with_old l s [] h = absurd (omega arith)
with_old l s (x ∷ xs) h = go (eqb x.label l) (λ k. with_old l s xs k) h
  where
    go : (b : Bool) → (index_of l xs < length xs → with_label l s xs ≡ set xs (index_of l xs) (entry l s)) → choose b 0 (suc (index_of l xs)) < suc (length xs) → choose b (entry l s ∷ xs) (x ∷ with_label l s xs) ≡ set (x ∷ xs) (choose b 0 (suc (index_of l xs))) (entry l s)
    go true k h = refl
    go false k h = ap (λ r. x ∷ r) (k (omega arith))

pub with_new : (l s : ℕ) (ls : List Label) → length ls ≤ index_of l ls → with_label l s ls ≡ ls ++ (entry l s ∷ [])
unfolding put_rules index_of
with_new l s [] h = refl
with_new l s (x ∷ xs) h = go (eqb x.label l) (λ k. with_new l s xs k) h
  where
    go : (b : Bool) → (length xs ≤ index_of l xs → with_label l s xs ≡ xs ++ (entry l s ∷ [])) → suc (length xs) ≤ choose b 0 (suc (index_of l xs)) → choose b (entry l s ∷ xs) (x ∷ with_label l s xs) ≡ x ∷ (xs ++ (entry l s ∷ []))
    go true k h = absurd (omega arith)
    go false k h = ap (λ r. x ∷ r) (k (omega arith))

-- ---- in the words

-- a search through the words ends at the index
pub searched : (ws : List ℕ) (n l i : ℕ) → i ≤ n → ((k : ℕ) → k < i → get_or ws (2 * k) 0 ≡ l → ⊥) → (i < n → get_or ws (2 * i) 0 ≡ l) → i ≡ index_of l (labels_in ws n)
searched ws n l i h before at =
    let size = labels_length ws n in
    sym
    (index_is l (labels_in ws n) i (omega (arith, size))
    (λ k small e. before k small (sym (ap (λ (x : Label). x.label) (get_or_labels ws n k (omega arith))) ∙ e))
    (λ small. ap (λ (x : Label). x.label) (get_or_labels ws n i (omega (arith, size))) ∙ at (omega (arith, size))))

pub index_within : (ws : List ℕ) (n l i : ℕ) → i ≡ index_of l (labels_in ws n) → i ≤ n
index_within ws n l i e = omega (arith, index_most l (labels_in ws n), labels_length ws n)

pub slot_there : (ws : List ℕ) (n l i : ℕ) → i ≡ index_of l (labels_in ws n) → i < n → get_or ws (2 * i + 1) 0 ≡ slot_of l (labels_in ws n)
slot_there ws n l i e small =
    sym
    (slot_by_index l (labels_in ws n) ∙ ap (λ (k : ℕ). (get_or (labels_in ws n) k no_label).slot) (sym e)
    ∙ ap (λ (x : Label). x.slot) (get_or_labels ws n i small))

pub slot_gone : (ws : List ℕ) (n l i : ℕ) → i ≡ index_of l (labels_in ws n) → n ≤ i → 0 ≡ slot_of l (labels_in ws n)
slot_gone ws n l i e large =
    sym
    (slot_by_index l (labels_in ws n)
    ∙ ap (λ (x : Label). x.slot)
    (lib.ListN.get_or-eq_default (labels_in ws n) no_label (omega (arith, e, labels_length ws n))))

-- two words written at a label's place
module _ (ws : List ℕ) (n l s i : ℕ) (room : 2 * n + 2 ≤ length ws) (e : i ≡ index_of l (labels_in ws n)) where
  abbrev after : List ℕ
  after = set (set ws (2 * i) l) (2 * i + 1) s

  after_size : length after ≡ length ws
  after_size = length-set (set ws (2 * i) l) (2 * i + 1) s ∙ length-set ws (2 * i) l

  here : label_at after i ≡ entry l s
  here = λ j. record { label = at_label j; slot = at_slot j }
    where
      within : i ≤ n
      within = index_within ws n l i e

      at_label : get_or after (2 * i) 0 ≡ l
      at_label =
          get_or-set_other (set ws (2 * i) l) (2 * i + 1) (2 * i) s 0 (λ q. omega arith) ∙ get_or-set_same ws (2 * i) l 0 (omega (arith, within))

      at_slot : get_or after (2 * i + 1) 0 ≡ s
      at_slot = get_or-set_same (set ws (2 * i) l) (2 * i + 1) s 0 (omega (arith, within, length-set ws (2 * i) l))

  other : (k : ℕ) → (k ≡ i → ⊥) → label_at after k ≡ label_at ws k
  other k d = λ j. record { label = at_label j; slot = at_slot j }
    where
      at_label : get_or after (2 * k) 0 ≡ get_or ws (2 * k) 0
      at_label =
          get_or-set_other (set ws (2 * i) l) (2 * i + 1) (2 * k) s 0 (λ q. omega arith) ∙ get_or-set_other ws (2 * i) (2 * k) l 0 (λ q. d (omega arith))

      at_slot : get_or after (2 * k + 1) 0 ≡ get_or ws (2 * k + 1) 0
      at_slot =
          get_or-set_other (set ws (2 * i) l) (2 * i + 1) (2 * k + 1) s 0 (λ q. d (omega arith))
          ∙ get_or-set_other ws (2 * i) (2 * k + 1) l 0 (λ q. omega arith)

  pub defined_old : i < n → Defined ws n l s after n
  defined_old small =
      record {
        labels =
            ext_get_or no_label (labels_in after n) (with_label l s (labels_in ws n)) (labels_length after n ∙ sym length_with)
            (λ k low.
            let less : k < n = omega (arith, labels_length after n) in
            get_or_labels after n k less
            ∙ elim (native.Mathlib.Decide.ℕ_discrete k i) [
              | yes q ↦
                  ap (label_at after) q ∙ here
                  ∙ sym (get_or-set_same (labels_in ws n) i (entry l s) no_label (omega (arith, labels_length ws n)))
                  ∙ ap (λ (m : ℕ). get_or (set (labels_in ws n) i (entry l s)) m no_label) (sym q)
              | no d ↦
                  other k d ∙ sym (get_or_labels ws n k less) ∙ sym (get_or-set_other (labels_in ws n) i k (entry l s) no_label d)
            ]
            ∙ ap (λ (m : List Label). get_or m k no_label) (sym old));
        size = after_size;
      }
    where
      old : with_label l s (labels_in ws n) ≡ set (labels_in ws n) i (entry l s)
      old = with_old l s (labels_in ws n) (omega (arith, e, labels_length ws n)) ∙ ap (λ (m : ℕ). set (labels_in ws n) m (entry l s)) (sym e)

      length_with : length (with_label l s (labels_in ws n)) ≡ n
      length_with = ap length old ∙ length-set (labels_in ws n) i (entry l s) ∙ labels_length ws n

  pub defined_new : n ≤ i → Defined ws n l s after (n + 1)
  defined_new large =
      record {
        labels =
            ext_get_or no_label (labels_in after (n + 1)) (with_label l s (labels_in ws n)) (labels_length after (n + 1) ∙ sym length_with)
            (λ k low.
            let less : k < n + 1 = omega (arith, labels_length after (n + 1)) in
            get_or_labels after (n + 1) k less
            ∙ elim (native.Mathlib.Decide.ℕ_discrete k n) [
              | yes q ↦
                  ap (label_at after) (q ∙ sym last) ∙ here
                  ∙ sym (lib.Seq.get_or_at (labels_in ws n) (entry l s) [] no_label n (labels_length ws n))
                  ∙ ap (λ (m : ℕ). get_or (labels_in ws n ++ (entry l s ∷ [])) m no_label) (sym q)
              | no d ↦
                  other k (λ q. d (q ∙ last)) ∙ sym (get_or_labels ws n k (omega arith))
                  ∙ sym (lib.ListN.get_or-append (labels_in ws n) (entry l s ∷ []) no_label k (omega (arith, labels_length ws n)))
            ]
            ∙ ap (λ (m : List Label). get_or m k no_label) (sym new));
        size = after_size;
      }
    where
      last : i ≡ n
      last = omega (arith, index_within ws n l i e)

      new : with_label l s (labels_in ws n) ≡ labels_in ws n ++ (entry l s ∷ [])
      new = with_new l s (labels_in ws n) (omega (arith, e, labels_length ws n))

      length_with : length (with_label l s (labels_in ws n)) ≡ n + 1
      length_with = ap length new ∙ lib.ListN.length-append (labels_in ws n) (entry l s ∷ []) ∙ ap (λ (m : ℕ). m + 1) (labels_length ws n)
