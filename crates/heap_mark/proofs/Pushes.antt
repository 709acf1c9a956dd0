-- What pushing does to the states and to the stack: nothing that was marked is lost, what is pushed is marked, and what is newly
-- marked waits on the stack. A newly marked slot loses the low bit of its state, so low bits and stack together stay as many.
-- Assumes nothing.
use mathlib.Core.Path.{◌≡◌, refl, sym, ap, ◌∙◌, subst}
use mathlib.Core.Bool.{Bool, true, false}
use mathlib.Core.List.{List, [], ◌∷◌, ◌++◌}
use mathlib.Core.Logic.{◌⊎◌, inl, inr, ⊎_elim}
use Prim.Native.Nat.{ℕ, ◌+◌, ◌/◌, ◌≤◌, ◌<◌}
use native.Mathlib.Omega.{arith}
use native.Mathlib.Numerals.{add-one}
use native.Mathlib.Decide.{ℕ_discrete, dec_lt}
use borrow.Author.Tests.{eqb-true, eqb-false, eq-eqb, ltb-true, lt-ltb}
use lib.Dec.{eqb, ltb}
use lib.ListN.{length, set, take, length-append}
use lib.Seq.{length-take-le, take-suc-set}
use Rattle.laws.specs.Basics.{choose, every, member, basics}
use Rattle.laws.proofs.Tests.{true≢false, both_left, both_right, both_true, either_cases, either_left, either_right, every_front, every_back}
use Rattle.laws.proofs.Members.{member_end, first_member, later_member, member_cases}
use Rattle.laws.proofs.Pointwise.{every_weaker}
use Rattle.rules.specs.Map.{Used, state_of, set_state, set_low_bits}
use Rattle.rules.proofs.TwoBits.{Bytes, state_past, set-state-length, state_same, state_other, stay_bytes, set_low_bits_change}
use Rattle.heap_mark.specs.Marks.{is_marked, held, Marking, marking, push_one, push_all, standing, CanPush, Pushed, mark_rules}

-- ---- one slot

module _ (m : List ℕ) (s : ℕ) (h : held m s ≡ true) where
  pub held_in_map : s / 4 < length m
  unfolding mark_rules
  held_in_map =
      elim (dec_lt (s / 4) (length m)) [
        | yes l ↦ l
        | no l ↦ absurd (omega (arith, state_past m s (omega arith), ltb-true 0 (state_of m s) (both_left (ltb 0 (state_of m s)) _ h)))
      ]

  pub held_allocated : is_marked m s ≡ false → state_of m s ≡ 1
  unfolding mark_rules
  held_allocated e =
      omega (
        arith,
        ltb-true 0 (state_of m s) (both_left (ltb 0 (state_of m s)) _ h),
        ltb-true (state_of m s) 3 (both_right (ltb 0 (state_of m s)) _ h),
        eqb-false (state_of m s) Used e,
      )

pub is_held : (m : List ℕ) (s : ℕ) → 0 < state_of m s → state_of m s < 3 → held m s ≡ true
unfolding mark_rules
is_held m s a b = both_true (lt-ltb 0 (state_of m s) a) (lt-ltb (state_of m s) 3 b)

-- a mark more is a low bit less
pub fewer_bits : (m : List ℕ) (s : ℕ) → s / 4 < length m → state_of m s ≡ 1 → set_low_bits (set_state m s Used) + 1 ≡ set_low_bits m
fewer_bits m s l e = omega (arith, set_low_bits_change m s Used l (omega arith))

-- ---- pushing

pub record Grown (ss : List ℕ) (p q : Marking) : Type 0 where
  pub size : length q.map ≡ length p.map
  pub kept : (s : ℕ) → (state_of q.map s ≡ Used → ⊥) → state_of q.map s ≡ state_of p.map s
  pub old : (s : ℕ) → state_of p.map s ≡ Used → state_of q.map s ≡ Used
  pub new : (s : ℕ) → member s ss ≡ true → state_of q.map s ≡ Used
  pub only : (s : ℕ) → state_of q.map s ≡ Used → (state_of p.map s ≡ Used) ⊎ (member s ss ≡ true)
  pub waiting : (s : ℕ) → state_of q.map s ≡ Used → (state_of p.map s ≡ Used) ⊎ (member s q.stack ≡ true)
  pub stack_old : (s : ℕ) → member s p.stack ≡ true → member s q.stack ≡ true
  pub stack_only : (s : ℕ) → member s q.stack ≡ true → (member s p.stack ≡ true) ⊎ (state_of q.map s ≡ Used)
  pub total : set_low_bits q.map + length q.stack ≡ set_low_bits p.map + length p.stack
  pub bytes : Bytes p.map → Bytes q.map

pub grown_none : (p : Marking) → Grown [] p p
unfolding basics
grown_none p =
    record {
      size = refl;
      kept = λ s d. refl;
      old = λ s e. e;
      new = λ s e. absurd (true≢false (sym e));
      only = λ s e. inl e;
      waiting = λ s e. inl e;
      stack_old = λ s e. e;
      stack_only = λ s e. inl e;
      total = refl;
      bytes = λ b. b;
    }

-- marked already
met : (x : ℕ) (p : Marking) → state_of p.map x ≡ Used → Grown (x ∷ []) p p
unfolding basics
met x p u =
    record {
      size = refl;
      kept = λ s d. refl;
      old = λ s e. e;
      new = λ s e. ⊎_elim (λ q. ap (state_of p.map) q ∙ u) (λ q. absurd (true≢false (sym q))) (member_cases s x [] e);
      only = λ s e. inl e;
      waiting = λ s e. inl e;
      stack_old = λ s e. e;
      stack_only = λ s e. inl e;
      total = refl;
      bytes = λ b. b;
    }

-- newly marked
module _ (x : ℕ) (m st : List ℕ) (inside : x / 4 < length m) (one : state_of m x ≡ 1) where
  abbrev after : Marking
  after = marking (set_state m x Used) (st ++ (x ∷ []))

  here : (s : ℕ) → s ≡ x → state_of (set_state m x Used) s ≡ Used
  here s e = ap (state_of (set_state m x Used)) e ∙ state_same m x Used (omega arith) inside

  elsewhere : (s : ℕ) → (s ≡ x → ⊥) → state_of (set_state m x Used) s ≡ state_of m s
  elsewhere s d = state_other m x Used (omega arith) s d

  on_top : (s : ℕ) → s ≡ x → member s (st ++ (x ∷ [])) ≡ true
  on_top s e = member_end s st x ∙ either_left (member s st) (eq-eqb s x e)

  either_way : (s : ℕ) → state_of (set_state m x Used) s ≡ Used → (state_of m s ≡ Used) ⊎ (s ≡ x)
  either_way s u = elim (ℕ_discrete s x) [ yes e ↦ inr e | no d ↦ inl (sym (elsewhere s d) ∙ u) ]

  stay_used : (s : ℕ) → state_of m s ≡ Used → state_of (set_state m x Used) s ≡ Used
  stay_used s u = elim (ℕ_discrete s x) [ yes e ↦ here s e | no d ↦ elsewhere s d ∙ u ]

  unmarked_stays : (s : ℕ) → (state_of (set_state m x Used) s ≡ Used → ⊥) → state_of (set_state m x Used) s ≡ state_of m s
  unmarked_stays s n = elim (ℕ_discrete s x) [ yes e ↦ absurd (n (here s e)) | no d ↦ elsewhere s d ]

  fresh : Grown (x ∷ []) (marking m st) after
  unfolding basics
  fresh =
      record {
        size = set-state-length m x Used;
        kept = unmarked_stays;
        old = stay_used;
        new = λ s e. ⊎_elim (λ q. here s q) (λ q. absurd (true≢false (sym q))) (member_cases s x [] e);
        only = λ s u. ⊎_elim (λ e. inl e) (λ e. inr (ap (λ (n : ℕ). member n (x ∷ [])) e ∙ first_member x [])) (either_way s u);
        waiting = λ s u. ⊎_elim (λ e. inl e) (λ e. inr (on_top s e)) (either_way s u);
        stack_old = λ s e. member_end s st x ∙ either_right (eqb s x) e;
        stack_only = λ s e. ⊎_elim (λ q. inr (here s (eqb-true s x q))) (λ q. inl q) (either_cases (eqb s x) _ (sym (member_end s st x) ∙ e));
        total = omega (arith, fewer_bits m x inside one, length-append st (x ∷ []));
        bytes = stay_bytes m x Used (omega arith);
      }

pub one_grown : (x : ℕ) (p : Marking) → held p.map x ≡ true → Grown (x ∷ []) p (push_one x p)
unfolding push_one is_marked
one_grown x p h = by (is_marked p.map x) refl
  where
    by : (b : Bool) → is_marked p.map x ≡ b → Grown (x ∷ []) p (choose b p (marking (set_state p.map x Used) (p.stack ++ (x ∷ []))))
    by true q = met x p (eqb-true (state_of p.map x) Used q)
    by false q = fresh x p.map p.stack (held_in_map p.map x h) (held_allocated p.map x h q)

-- one after the other
grown_on : (x : ℕ) (ss : List ℕ) (p q r : Marking) → Grown (x ∷ []) p q → Grown ss q r → Grown (x ∷ ss) p r
unfolding basics
grown_on x ss p q r a b =
    record {
      size = b.size ∙ a.size;
      kept = λ s n. b.kept s n ∙ a.kept s (λ u. n (b.old s u));
      old = λ s u. b.old s (a.old s u);
      new = λ s e. ⊎_elim (λ i. b.old s (a.new s (ap (λ (n : ℕ). member n (x ∷ [])) i ∙ first_member x []))) (λ i. b.new s i) (member_cases s x ss e);
      only = λ s u.
          ⊎_elim
          (λ v.
          ⊎_elim (λ w. inl w)
          (λ w. ⊎_elim (λ i. inr (ap (λ (n : ℕ). member n (x ∷ ss)) i ∙ first_member x ss)) (λ i. absurd (true≢false (sym i))) (member_cases s x [] w))
          (a.only s v))
          (λ v. inr (later_member s x ss v)) (b.only s u);
      waiting = λ s u.
          ⊎_elim (λ v. ⊎_elim (λ w. inl w) (λ w. inr (b.stack_old s w)) (a.waiting s v)) (λ v. inr v) (b.waiting s u);
      stack_old = λ s e. b.stack_old s (a.stack_old s e);
      stack_only = λ s e.
          ⊎_elim (λ v. ⊎_elim (λ w. inl w) (λ w. inr (b.old s w)) (a.stack_only s v)) (λ v. inr v) (b.stack_only s e);
      total = b.total ∙ a.total;
      bytes = λ y. b.bytes (a.bytes y);
    }

-- what was held is held still
pub still_held : (ss : List ℕ) (p q : Marking) → Grown ss p q → (s : ℕ) → held p.map s ≡ true → held q.map s ≡ true
unfolding mark_rules
still_held ss p q g s h =
    elim (ℕ_discrete (state_of q.map s) Used) [
      | yes u ↦ is_held q.map s (omega arith) (omega arith)
      | no n ↦
          let e = g.kept s n in
          is_held q.map s
          (omega (arith, ltb-true 0 (state_of p.map s) (both_left (ltb 0 (state_of p.map s)) _ h)))
          (omega (arith, ltb-true (state_of p.map s) 3 (both_right (ltb 0 (state_of p.map s)) _ h)))
    ]

pub all_grown : (ss : List ℕ) (p : Marking) → every (held p.map) ss ≡ true → Grown ss p (push_all ss p)
unfolding push_all basics
all_grown [] p e = grown_none p
all_grown (x ∷ ss) p e =
    let a = one_grown x p (both_left (held p.map x) _ e) in
    grown_on x ss p (push_one x p) (push_all ss (push_one x p)) a
    (all_grown ss (push_one x p) (every_weaker (held p.map) (held (push_one x p).map) (still_held (x ∷ []) p (push_one x p) a) ss (both_right (held p.map x) _ e)))

-- ---- in the scratch

pub all_append : (ss ts : List ℕ) (p : Marking) → push_all (ss ++ ts) p ≡ push_all ts (push_all ss p)
unfolding push_all
all_append [] ts p = refl
all_append (x ∷ ss) ts p = all_append ss ts (push_one x p)

pub can_first : (ss ts m sc : List ℕ) (top : ℕ) → CanPush (ss ++ ts) m sc top → CanPush ss m sc top
can_first ss ts m sc top c = record { slots = every_front (held m) ss ts c.slots; room = c.room }

module _ (ss m sc : List ℕ) (top : ℕ) (m' sc' : List ℕ) (top' : ℕ) (d : Pushed ss m sc top m' sc' top') where
  left : marking m' (take top' sc') ≡ push_all ss (standing m sc top)
  left = λ i. marking (d.map_is i) (d.stack_is i)

  module _ (c : CanPush ss m sc top) where
    grown : Grown ss (standing m sc top) (push_all ss (standing m sc top))
    grown = all_grown ss (standing m sc top) c.slots

    pub pushed_grown : Grown ss (standing m sc top) (standing m' sc' top')
    pushed_grown = subst (λ (q : Marking). Grown ss (standing m sc top) q) (sym left) grown

    -- low bits and stack together are as many as before
    pub pushed_total : set_low_bits m' + top' ≡ set_low_bits m + top
    pushed_total =
        omega (
          arith,
          ap set_low_bits d.map_is,
          d.height,
          grown.total,
          length-take-le top sc (omega (arith, c.room)),
        )

    pub pushed_size : length m' ≡ length m
    pushed_size = ap length d.map_is ∙ grown.size

  pub can_rest : (ts : List ℕ) → CanPush (ss ++ ts) m sc top → length sc' ≡ length sc → CanPush ts m' sc' top'
  can_rest ts c l =
      let f = can_first ss ts m sc top c in
      record {
        slots =
            every_weaker (held m) (held m') (still_held ss (standing m sc top) (standing m' sc' top') (pushed_grown f)) ts
            (every_back (held m) ss ts c.slots);
        room = omega (arith, pushed_total f, c.room);
      }

  pub pushed_on : (ts m'' sc'' : List ℕ) (top'' : ℕ) → Pushed ts m' sc' top' m'' sc'' top'' → Pushed (ss ++ ts) m sc top m'' sc'' top''
  pushed_on ts m'' sc'' top'' e =
      let all : push_all ts (standing m' sc' top') ≡ push_all (ss ++ ts) (standing m sc top) =
      ap (push_all ts) left ∙ sym (all_append ss ts (standing m sc top))
      in
      record {
        map_is = e.map_is ∙ ap (λ (p : Marking). p.map) all;
        stack_is = e.stack_is ∙ ap (λ (p : Marking). p.stack) all;
        height = e.height ∙ ap (λ (p : Marking). length p.stack) all;
      }

pub pushed_none : (m sc : List ℕ) (top : ℕ) → top ≤ length sc → Pushed [] m sc top m sc top
unfolding push_all
pushed_none m sc top l = record { map_is = refl; stack_is = refl; height = sym (length-take-le top sc l) }

-- ---- the code's two ways

module _ (m sc : List ℕ) (top s : ℕ) (c : CanPush (s ∷ []) m sc top) where
  held_one : held m s ≡ true
  unfolding basics
  held_one = both_left (held m s) _ c.slots

  pub one_met : is_marked m s ≡ true → Pushed (s ∷ []) m sc top m sc top
  unfolding push_all push_one
  one_met e =
      let same : push_one s (standing m sc top) ≡ standing m sc top =
      ap (λ (b : Bool). choose b (standing m sc top) (marking (set_state m s Used) (take top sc ++ (s ∷ [])))) e
      in
      record {
        map_is = ap (λ (p : Marking). p.map) (sym same);
        stack_is = ap (λ (p : Marking). p.stack) (sym same);
        height = sym (length-take-le top sc (omega (arith, c.room))) ∙ ap (λ (p : Marking). length p.stack) (sym same);
      }

  module _ (e : is_marked m s ≡ false) where
    pub one_in_map : s / 4 < length m
    one_in_map = held_in_map m s held_one

    pub one_room : top < length sc
    one_room = omega (arith, c.room, fewer_bits m s one_in_map (held_allocated m s held_one e))

    pub one_new : (m' : List ℕ) → m' ≡ set_state m s Used → Pushed (s ∷ []) m sc top m' (set sc top s) (top + 1)
    unfolding push_all push_one
    one_new m' q =
        let next : push_one s (standing m sc top) ≡ marking (set_state m s Used) (take top sc ++ (s ∷ [])) =
        ap (λ (b : Bool). choose b (standing m sc top) (marking (set_state m s Used) (take top sc ++ (s ∷ [])))) e
        in
        record {
          map_is = q ∙ ap (λ (p : Marking). p.map) (sym next);
          stack_is =
              ap (λ (n : ℕ). take n (set sc top s)) (add-one top) ∙ take-suc-set sc top s one_room
              ∙ ap (λ (p : Marking). p.stack) (sym next);
          height =
              omega (arith, length-append (take top sc) (s ∷ []), length-take-le top sc (omega (arith, c.room)))
              ∙ ap (λ (p : Marking). length p.stack) (sym next);
        }
