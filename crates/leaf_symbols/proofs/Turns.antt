-- The loops over the table: a turn at a place decides, or leaves what is to do to the rest. Assumes nothing.
use mathlib.Core.Path.{◌≡◌, refl, sym, ap, ◌∙◌}
use mathlib.Core.Bool.{Bool, true, false}
use mathlib.Core.List.{List, [], ◌∷◌}
use mathlib.Core.Option.{Option, none, some}
use Prim.Native.Nat.{ℕ, suc, ◌+◌, ◌-◌, ◌*◌, ◌≤◌, ◌<◌}
use native.Mathlib.Omega.{arith}
use borrow.Author.Tests.{eq-eqb, ne_eqb}
use lib.ListN.{length, get_or, set, replicate, length-set}
use lib.Seq.{get_or-set_other}
use Rattle.laws.specs.Basics.{choose, both, find, keep, same, basics}
use Rattle.laws.proofs.Tests.{both_true}
use Rattle.rules.specs.Map.{state_of, is_allocated, Allocated}
use Rattle.rules.specs.Heap.{Entry}
use Rattle.leaf_symbols.specs.Table.{count_of, name_of, entry, entry_in, entries_from, entries, is_entry, slot_of, found_in, stored_entry, stored_entries, added, kept_entries, ClosedUp, cleared, dropped}

-- ---- finding

-- what is found among n entries from place i on
unfoldable pub found_from : List ℕ → List ℕ → List ℕ → ℕ → ℕ → ℕ → Option ℕ
unfolding entries_from is_entry basics
found_from ws bytes name scope i n = slot_of (find (is_entry ws bytes name scope) (entries_from ws i n))

module _ (ws bytes name : List ℕ) (scope : ℕ) where
  pub found_start : found_from ws bytes name scope 0 (count_of ws - 0) ≡ found_in ws bytes name scope
  unfolding found_from found_in entries
  found_start = let e : count_of ws - 0 ≡ count_of ws = omega arith in ap (found_from ws bytes name scope 0) e

  pub found_end : (i count : ℕ) → count ≤ i → none ≡ found_from ws bytes name scope i (count - i)
  unfolding found_from entries_from basics
  found_end i count h = let e : count - i ≡ 0 = omega arith in sym (ap (found_from ws bytes name scope i) e)

  pub other_scope : (i : ℕ) → (get_or ws (8 + 8 * i + 6) 0 ≡ scope → ⊥) → is_entry ws bytes name scope (entry_in ws i) ≡ false
  unfolding is_entry
  other_scope i d = ap (λ (b : Bool). both b (same (name_of ws bytes (entry_in ws i).slot) name)) (ne_eqb (get_or ws (8 + 8 * i + 6) 0) scope d)

  pub other_name : (i : ℕ) → get_or ws (8 + 8 * i + 6) 0 ≡ scope → same (name_of ws bytes (entry_in ws i).slot) name ≡ false → is_entry ws bytes name scope (entry_in ws i) ≡ false
  unfolding is_entry
  other_name i e n = (λ j. both (eq-eqb (get_or ws (8 + 8 * i + 6) 0) scope e j) (n j))

  module _ (i count : ℕ) (h : i < count) where
    rest : Option Entry
    rest = find (is_entry ws bytes name scope) (entries_from ws (suc i) (count - (i + 1)))

    turn : Bool → Option ℕ
    turn b = slot_of (elim b [ true ↦ some (entry_in ws i) | false ↦ rest ])

    step : found_from ws bytes name scope i (count - i) ≡ turn (is_entry ws bytes name scope (entry_in ws i))
    unfolding found_from entries_from basics turn rest
    step = let e : count - i ≡ suc (count - (i + 1)) = omega arith in ap (found_from ws bytes name scope i) e

    pub finds : get_or ws (8 + 8 * i + 6) 0 ≡ scope → same (name_of ws bytes (entry_in ws i).slot) name ≡ true → some (entry_in ws i).slot ≡ found_from ws bytes name scope i (count - i)
    unfolding turn is_entry
    finds e n = sym (step ∙ ap turn (both_true (eq-eqb (get_or ws (8 + 8 * i + 6) 0) scope e) n))

    pub passes : is_entry ws bytes name scope (entry_in ws i) ≡ false → found_from ws bytes name scope (i + 1) (count - (i + 1)) ≡ found_from ws bytes name scope i (count - i)
    unfolding turn rest found_from
    passes e =
        let up : i + 1 ≡ suc i = omega arith in
        ap (λ (k : ℕ). found_from ws bytes name scope k (count - (i + 1))) up ∙ sym (step ∙ ap turn e)

-- ---- stores

pub length-stored : (ws : List ℕ) (i : ℕ) (e : Entry) → length (stored_entry ws i e) ≡ length ws
unfolding stored_entry
length-stored ws i e = simp length-set

pub length-stored-all : (ws : List ℕ) (i : ℕ) (es : List Entry) → length (stored_entries ws i es) ≡ length ws
unfolding stored_entries
length-stored-all ws i [] = refl
length-stored-all ws i (e ∷ es) = length-stored-all (stored_entry ws i e) (suc i) es ∙ length-stored ws i e

pub length-added : (ws : List ℕ) (e : Entry) → length (added ws e) ≡ length ws
unfolding added
length-added ws e = length-set (stored_entry ws (count_of ws) e) 3 (count_of ws + 1) ∙ length-stored ws (count_of ws) e

-- another entry's words stay
other_stored : (ws : List ℕ) (i j : ℕ) (e : Entry) → (j ≡ i → ⊥) → entry_in (stored_entry ws i e) j ≡ entry_in ws j
unfolding stored_entry
other_stored ws i j e d =
    let w = set ws (8 + 8 * i + 5) e.slot in
    let word : (k : ℕ) → (8 + 8 * j + k ≡ 8 + 8 * i + 5 → ⊥) → (8 + 8 * j + k ≡ 8 + 8 * i + 6 → ⊥) → get_or (stored_entry ws i e) (8 + 8 * j + k) 0 ≡ get_or ws (8 + 8 * j + k) 0 =
    λ k p q. get_or-set_other w (8 + 8 * i + 6) (8 + 8 * j + k) e.scope 0 q ∙ get_or-set_other ws (8 + 8 * i + 5) (8 + 8 * j + k) e.slot 0 p
    in
    λ x. entry (word 5 (λ p. omega arith) (λ p. omega arith) x) (word 6 (λ p. omega arith) (λ p. omega arith) x)

-- ---- closing up

-- those kept of the entries from place i up to the count
unfoldable pub kept_from : List ℕ → List ℕ → ℕ → ℕ → List Entry
unfolding entries_from basics
kept_from ws map count i = keep (λ (e : Entry). is_allocated map e.slot) (entries_from ws i (count - i))

module _ (ws map : List ℕ) (count : ℕ) where
  kept_start : count ≡ count_of ws → kept_from ws map count 0 ≡ kept_entries ws map
  unfolding kept_from kept_entries entries
  kept_start e =
      let z : count - 0 ≡ count_of ws = omega arith in
      ap (λ (n : ℕ). keep (λ (e : Entry). is_allocated map e.slot) (entries_from ws 0 n)) z

  kept_end : (i : ℕ) → count ≤ i → kept_from ws map count i ≡ []
  unfolding kept_from entries_from basics
  kept_end i h = let e : count - i ≡ 0 = omega arith in ap (λ (n : ℕ). keep (λ (e : Entry). is_allocated map e.slot) (entries_from ws i n)) e

  module _ (i : ℕ) (h : i < count) where
    turn_kept : Bool → List Entry
    turn_kept b = let r = kept_from ws map count (suc i) in choose b (entry_in ws i ∷ r) r

    kept_step : kept_from ws map count i ≡ turn_kept (is_allocated map (entry_in ws i).slot)
    unfolding kept_from entries_from basics turn_kept
    kept_step =
        let e : count - i ≡ suc (count - suc i) = omega arith in
        ap (λ (n : ℕ). keep (λ (e : Entry). is_allocated map e.slot) (entries_from ws i n)) e

    kept_one : state_of map (entry_in ws i).slot ≡ Allocated → kept_from ws map count i ≡ entry_in ws i ∷ kept_from ws map count (i + 1)
    unfolding turn_kept is_allocated
    kept_one e =
        let up : suc i ≡ i + 1 = omega arith in
        kept_step ∙ ap turn_kept (eq-eqb (state_of map (entry_in ws i).slot) Allocated e)
        ∙ ap (λ (k : ℕ). entry_in ws i ∷ kept_from ws map count k) up

    kept_none : (state_of map (entry_in ws i).slot ≡ Allocated → ⊥) → kept_from ws map count i ≡ kept_from ws map count (i + 1)
    unfolding turn_kept is_allocated
    kept_none d =
        let up : suc i ≡ i + 1 = omega arith in
        kept_step ∙ ap turn_kept (ne_eqb (state_of map (entry_in ws i).slot) Allocated d) ∙ ap (kept_from ws map count) up

-- the loop of closing up: the places from i on are as they were, and what is left to store makes the whole
pub record Closing (ws₀ map : List ℕ) (count : ℕ) (ws : List ℕ) (kept i : ℕ) : Type 0 where
  pub same_size : length ws ≡ length ws₀
  pub place : kept ≤ i
  pub within : i ≤ count
  pub ahead : (j : ℕ) → i ≤ j → entry_in ws j ≡ entry_in ws₀ j
  pub rest : stored_entries ws kept (kept_from ws₀ map count i) ≡ stored_entries ws₀ 0 (kept_from ws₀ map count 0)
  pub many : kept + length (kept_from ws₀ map count i) ≡ length (kept_from ws₀ map count 0)

pub closing : (ws map : List ℕ) (count : ℕ) → Closing ws map count ws 0 0
closing ws map count =
    record {
      same_size = refl;
      place = omega arith;
      within = omega arith;
      ahead = λ j h. refl;
      rest = refl;
      many = omega arith;
    }

module _ (ws₀ map : List ℕ) (count : ℕ) (ws : List ℕ) (kept i : ℕ) (c : Closing ws₀ map count ws kept i) (h : i < count) where
  pub closing_kept : (ws' : List ℕ) (kept' : ℕ) → ws' ≡ stored_entry ws kept (entry_in ws i) → kept' ≡ kept + 1 → state_of map (entry_in ws i).slot ≡ Allocated → Closing ws₀ map count ws' kept' (i + 1)
  unfolding stored_entries
  closing_kept ws' kept' e k a =
      let here = c.ahead i (omega arith) in
      let low = c.place in
      let many = c.many in
      let all = kept_one ws₀ map count i h (ap (λ (x : Entry). state_of map x.slot) (sym here) ∙ a) in
      let up : kept' ≡ suc kept = omega arith in
      let next = kept_from ws₀ map count (i + 1) in
      record {
        same_size = ap length e ∙ length-stored ws kept (entry_in ws i) ∙ c.same_size;
        place = omega arith;
        within = omega arith;
        ahead = λ j p.
            ap (λ (l : List ℕ). entry_in l j) e ∙ other_stored ws kept j (entry_in ws i) (λ q. omega arith) ∙ c.ahead j (omega arith);
        rest =
            (λ x. stored_entries (e x) (up x) next) ∙ (λ x. stored_entries (stored_entry ws kept (here x)) (suc kept) next)
            ∙ ap (stored_entries ws kept) (sym all) ∙ c.rest;
        many = omega (arith, ap length all);
      }

  pub closing_freed : (ws' : List ℕ) (kept' : ℕ) → ws' ≡ ws → kept' ≡ kept → (state_of map (entry_in ws i).slot ≡ Allocated → ⊥) → Closing ws₀ map count ws' kept' (i + 1)
  closing_freed ws' kept' e k d =
      let here = c.ahead i (omega arith) in
      let low = c.place in
      let many = c.many in
      let all = kept_none ws₀ map count i h (λ a. d (ap (λ (x : Entry). state_of map x.slot) here ∙ a)) in
      record {
        same_size = ap length e ∙ c.same_size;
        place = omega arith;
        within = omega arith;
        ahead = λ j p. ap (λ (l : List ℕ). entry_in l j) e ∙ c.ahead j (omega arith);
        rest = (λ x. stored_entries (e x) (k x) (sym all x)) ∙ c.rest;
        many = omega (arith, ap length all);
      }

pub closing_ends : (ws₀ map ws : List ℕ) (kept i : ℕ) → Closing ws₀ map (count_of ws₀) ws kept i → count_of ws₀ ≤ i → ClosedUp ws₀ ws map kept
unfolding stored_entries
closing_ends ws₀ map ws kept i c h =
    let none_left = kept_end ws₀ map (count_of ws₀) i h in
    let all = kept_start ws₀ map (count_of ws₀) refl in
    let many = c.many in
    record {
      words = ap (stored_entries ws kept) (sym none_left) ∙ c.rest ∙ ap (stored_entries ws₀ 0) all;
      many = omega (arith, ap length none_left, ap length all);
    }

pub length_closed : (ws₀ ws map : List ℕ) (r : ℕ) → ClosedUp ws₀ ws map r → length ws ≡ length ws₀
length_closed ws₀ ws map r c = ap length c.words ∙ length-stored-all ws₀ 0 (kept_entries ws₀ map)

-- ---- clearing

pub length-cleared : (ws : List ℕ) (from to : ℕ) → length (cleared ws from to) ≡ length ws
unfolding cleared
length-cleared ws from to = length-stored-all ws from (replicate (to - from) (entry 0 0))

pub cleared_on : (ws : List ℕ) (i to : ℕ) → i < to → cleared (stored_entry ws i (entry 0 0)) (i + 1) to ≡ cleared ws i to
unfolding cleared stored_entries
cleared_on ws i to h =
    let up : i + 1 ≡ suc i = omega arith in
    let more : suc (to - (i + 1)) ≡ to - i = omega arith in
    (λ x. stored_entries (stored_entry ws i (entry 0 0)) (up x) (replicate (to - (i + 1)) (entry 0 0)))
    ∙ ap (λ (n : ℕ). stored_entries ws i (replicate n (entry 0 0))) more

pub cleared_end : (ws : List ℕ) (i to : ℕ) → to ≤ i → ws ≡ cleared ws i to
unfolding cleared stored_entries
cleared_end ws i to h = let e : to - i ≡ 0 = omega arith in sym (ap (λ (n : ℕ). stored_entries ws i (replicate n (entry 0 0))) e)

-- ---- the whole

pub drops : (ws map ws₁ ws₂ : List ℕ) (r : ℕ) → ClosedUp ws ws₁ map r → ws₂ ≡ cleared ws₁ r (count_of ws) → set ws₂ 3 r ≡ dropped ws map
unfolding dropped
drops ws map ws₁ ws₂ r c e =
    ap (λ (l : List ℕ). set l 3 r) e ∙ (λ x. set (cleared (c.words x) (c.many x) (count_of ws)) 3 (c.many x))

pub length-dropped : (ws map : List ℕ) → length (dropped ws map) ≡ length ws
unfolding dropped
length-dropped ws map =
    let kept = kept_entries ws map in
    length-set (cleared (stored_entries ws 0 kept) (length kept) (count_of ws)) 3 (length kept)
    ∙ length-cleared (stored_entries ws 0 kept) (length kept) (count_of ws) ∙ length-stored-all ws 0 kept
