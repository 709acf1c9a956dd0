-- What a cell leads to, as its elements; in a good heap only slots in use are reached. Document 01: "a pair leads to car and cdr,
-- a vector to each element that is a slot", "every slot that an Allocated cell or its elements name is Allocated". Assumes
-- nothing.
use mathlib.Core.Path.{◌≡◌, refl, sym, ap, ◌∙◌}
use mathlib.Core.Bool.{Bool, true, false}
use mathlib.Core.List.{List, [], ◌∷◌}
use mathlib.Core.Logic.{⊎_elim}
use Prim.Native.Nat.{ℕ, zero, suc, ◌+◌, ◌<◌}
use native.Mathlib.Omega.{arith}
use lib.ListN.{length, get_or}
use Rattle.laws.specs.Basics.{every, member, basics}
use Rattle.laws.proofs.Tests.{true≢false, both_left, both_right}
use Rattle.laws.proofs.Pointwise.{get_d_part, length_part}
use Rattle.laws.proofs.Members.{first_member, later_member, member_cases, every_member}
use Rattle.rules.specs.Cells.{undefined, Value, slot, scalar, Cell, plain, pair, symbol, string, vector}
use Rattle.rules.specs.Heap.{Heap, capacity, cell_at, in_use, elements_of}
use Rattle.rules.specs.Collect.{slots_among, leads_to, Reached, marked}
use Rattle.rules.specs.Sound.{value_named, sound_rules}
use Rattle.rules.specs.Calls.{call_rules}
use Rattle.rules.proofs.Good.{CellGood, Good, used_slot}
use Rattle.rules.proofs.Keeping.{lies_below}
use Rattle.collect_laws.proofs.Reach.{marked_reached, marked_keeps, reached_marked}

-- ---- slots among values

pub element_among : (vs : List Value) (j t : ℕ) → get_or vs j (scalar undefined) ≡ slot t → member t (slots_among vs) ≡ true
unfolding slots_among basics
element_among [] j t e = let z : ◌≡◌ {A = ℕ} 0 1 = cc in absurd (omega arith)
element_among (slot s ∷ vs) zero t e =
    let q : s ≡ t = cc in ap (λ (x : ℕ). member t (x ∷ slots_among vs)) q ∙ first_member t (slots_among vs)
element_among (scalar x ∷ vs) zero t e = let z : ◌≡◌ {A = ℕ} 0 1 = cc in absurd (omega arith)
element_among (slot s ∷ vs) (suc j) t e = later_member t s (slots_among vs) (element_among vs j t e)
element_among (scalar x ∷ vs) (suc j) t e = element_among vs j t e

record Element (vs : List Value) (t : ℕ) : Type 0 where
  at : ℕ
  below : at < length vs
  is : get_or vs at (scalar undefined) ≡ slot t

later_element : (v : Value) (vs : List Value) (t : ℕ) → Element vs t → Element (v ∷ vs) t
later_element v vs t e = record { at = suc e.at; below = omega (arith, e.below); is = e.is }

among_element : (vs : List Value) (t : ℕ) → member t (slots_among vs) ≡ true → Element vs t
unfolding slots_among basics
among_element [] t e = absurd (true≢false (sym e))
among_element (slot s ∷ vs) t e =
    ⊎_elim (λ q. record { at = 0; below = omega arith; is = ap slot (sym q) })
    (λ q. later_element (slot s) vs t (among_element vs t q)) (member_cases t s (slots_among vs) e)
among_element (scalar x ∷ vs) t e = later_element (scalar x) vs t (among_element vs t e)

-- ---- what a good cell leads to is in use

module _ (h : Heap) where
  nowhere : (t : ℕ) → member t [] ≡ true → in_use h t ≡ true
  unfolding basics
  nowhere t e = absurd (true≢false (sym e))

  pub leads_used : (c : Cell) → CellGood h c → (t : ℕ) → member t (leads_to h c) ≡ true → in_use h t ≡ true
  unfolding leads_to call_rules sound_rules
  leads_used (plain x) g t e = nowhere t e
  leads_used (pair a d) g t e =
      ⊎_elim (λ q. ap (in_use h) q ∙ both_left (in_use h a) _ g.linked)
      (λ p.
      ⊎_elim (λ q. ap (in_use h) q ∙ both_right (in_use h a) _ g.linked) (λ q. nowhere t q) (member_cases t d [] p))
      (member_cases t a (d ∷ []) e)
  leads_used (symbol b) g t e = nowhere t e
  leads_used (string b) g t e = nowhere t e
  leads_used (vector b) g t e =
      let x = among_element (elements_of h b) t e in
      let size = length_part h.elements b.place b.size (lies_below (length h.elements) b g.vector_in) in
      let small : x.at < b.size = omega (arith, x.below) in
      ap (value_named h) (sym (sym (get_d_part h.elements b.place b.size x.at (scalar undefined) small) ∙ x.is))
      ∙ g.held (b.place + x.at) (omega arith) (omega arith)

-- ---- so only slots in use are reached, and marking finds just those

module _ (h : Heap) (g : Good h) (roots : List ℕ) (u : every (in_use h) roots ≡ true) where
  abbrev Q : ℕ → Type 0
  Q s = in_use h s ≡ true

  low : (s : ℕ) → Q s → s < capacity h
  low s e = (used_slot h s e).below

  on : (s t : ℕ) → Q s → member t (leads_to h (cell_at h s)) ≡ true → Q t
  on s t e m = leads_used h (cell_at h s) (g.cells s) t m

  pub marked_in_use : (s : ℕ) → member s (marked h roots) ≡ true → in_use h s ≡ true
  marked_in_use = marked_keeps h roots Q low (every_member (in_use h) roots u) on

  pub is_marked : (s : ℕ) → Reached h roots s → member s (marked h roots) ≡ true
  is_marked = reached_marked h roots Q low (every_member (in_use h) roots u) on

  pub not_marked : (s : ℕ) → (Reached h roots s → ⊥) → member s (marked h roots) ≡ false
  not_marked s n = by (member s (marked h roots)) refl
    where
      by : (b : Bool) → member s (marked h roots) ≡ b → b ≡ false
      by true e = absurd (n (marked_reached h roots s e))
      by false e = refl
