-- The stack of awaited data: taking one off, and putting a node's on. Assumes nothing.
use mathlib.Core.Path.{◌≡◌, refl, sym, ap, ◌∙◌, subst}
use mathlib.Core.List.{List, [], ◌∷◌, ◌++◌}
use Prim.Native.Nat.{ℕ, zero, suc, ◌+◌, ◌-◌, ◌≤◌, ◌<◌}
use native.Mathlib.Omega.{arith}
use native.Mathlib.Decide.{ℕ_discrete}
use native.Mathlib.Numerals.{add-one}
use lib.ListN.{length, get_or, set, replicate, length-set, length-replicate}
use lib.Seq.{get_or-set_same, get_or-set_other}
use Rattle.heap_needs.specs.Pass.{node_of, flags, stack_of, Clear, Pushed, pass_rules}
use Rattle.leaf_nodes.specs.declared.Node as leaf
use Rattle.leaf_nodes.specs.declared.Node.TheVariants.{Plain, String, Symbol, Ident, Ref, Pair, Vector, Def}

stack_same : (s s' : List ℕ) (n : ℕ) → ((i : ℕ) → i < n → get_or s' i 0 ≡ get_or s i 0) → stack_of s' n ≡ stack_of s n
unfolding pass_rules
stack_same s s' zero p = refl
stack_same s s' (suc n) p = λ j. p n (omega arith) j ∷ stack_same s s' n (λ i l. p i (omega arith)) j

-- ---- on

pub push_none : (s : List ℕ) (top : ℕ) (fs : List ℕ) → Clear s top → fs ≡ [] → Pushed s s top top fs
push_none s top fs c e = subst (λ (l : List ℕ). Pushed s s top top l) (sym e) (record { top_is = omega arith; stack = refl; clear = c })

-- what is none of these is followed by none
pub no_flags : (x : leaf.Node) → (x ≡ Pair → ⊥) → ((n : ℕ) → x ≡ Vector n → ⊥) → ((l : ℕ) → x ≡ Def l → ⊥) → flags (node_of x []) ≡ []
unfolding pass_rules
no_flags (Plain v) a b c = refl
no_flags (String n) a b c = refl
no_flags (Symbol n) a b c = refl
no_flags (Ident s n) a b c = refl
no_flags (Ref l) a b c = refl
no_flags Pair a b c = absurd (a refl)
no_flags (Vector n) a b c = absurd (b n refl)
no_flags (Def l) a b c = absurd (c l refl)

zeros_on : (s : List ℕ) (top n : ℕ) → Clear s top → stack_of s (top + n) ≡ replicate n 0 ++ stack_of s top
unfolding pass_rules
zeros_on s top zero c = ap (stack_of s) (let e : top + 0 ≡ top = omega arith in e)
zeros_on s top (suc n) c =
    ap (stack_of s) (let e : top + suc n ≡ suc (top + n) = omega arith in e)
    ∙ (λ j. c.above (top + n) (omega arith) j ∷ zeros_on s top n c j)

pub push_zeros : (s : List ℕ) (top n : ℕ) → Clear s top → Pushed s s top (top + n) (replicate n 0)
push_zeros s top n c =
    record {
      top_is = omega (arith, length-replicate {A = ℕ} n 0);
      stack = zeros_on s top n c;
      clear = record { long = c.long; above = λ i l. c.above i (omega arith) };
    }

module _ (s : List ℕ) (top : ℕ) (c : Clear s top) (room : top + 2 ≤ 4096) where
  abbrev twice : List ℕ
  twice = set (set s top 1) (top + 1) 1

  second : get_or twice (top + 1) 0 ≡ 1
  second = get_or-set_same (set s top 1) (top + 1) 1 0 (omega (arith, c.long, length-set s top 1))

  first : get_or twice top 0 ≡ 1
  first = get_or-set_other (set s top 1) (top + 1) top 1 0 (λ e. omega arith) ∙ get_or-set_same s top 1 0 (omega (arith, c.long))

  others : (i : ℕ) → (i ≡ top → ⊥) → (i ≡ top + 1 → ⊥) → get_or twice i 0 ≡ get_or s i 0
  others i p q = get_or-set_other (set s top 1) (top + 1) i 1 0 q ∙ get_or-set_other s top i 1 0 p

  pub push_pair : Pushed s twice top (top + 2) (1 ∷ 1 ∷ [])
  unfolding pass_rules
  push_pair =
      record {
        top_is = omega arith;
        stack =
            ap (stack_of twice) (let e : top + 2 ≡ suc (suc top) = omega arith in e)
            ∙ (λ j.
            (ap (λ (n : ℕ). get_or twice n 0) (sym (add-one top)) ∙ second) j
            ∷ first j
            ∷ stack_same s twice top (λ i l. others i (λ e. omega arith) (λ e. omega arith)) j);
        clear =
            record {
              long = length-set (set s top 1) (top + 1) 1 ∙ length-set s top 1 ∙ c.long;
              above = λ i l. others i (λ e. omega arith) (λ e. omega arith) ∙ c.above i (omega arith);
            };
      }

-- ---- off

module _ (s : List ℕ) (top : ℕ) (c : Clear s top) (some : 0 < top) where
  pub pop_head : stack_of s top ≡ get_or s (top - 1) 0 ∷ stack_of s (top - 1)
  unfolding pass_rules
  pop_head = ap (stack_of s) (let e : top ≡ suc (top - 1) = omega arith in e)

  pub pop_rest : stack_of (set s (top - 1) 0) (top - 1) ≡ stack_of s (top - 1)
  pop_rest = stack_same s (set s (top - 1) 0) (top - 1) (λ i l. get_or-set_other s (top - 1) i 0 0 (λ e. omega arith))

  pub pop_clear : top ≤ 4096 → Clear (set s (top - 1) 0) (top - 1)
  pop_clear most =
      record {
        long = length-set s (top - 1) 0 ∙ c.long;
        above =
            λ i l.
            elim (ℕ_discrete i (top - 1)) [
              | yes e ↦
                  ap (λ (n : ℕ). get_or (set s (top - 1) 0) n 0) e
                  ∙ get_or-set_same s (top - 1) 0 0 (omega (arith, c.long))
              | no d ↦ get_or-set_other s (top - 1) i 0 0 d ∙ c.above i (omega arith)
            ];
      }

-- ---- the first

pub first_stack : (s : List ℕ) → Clear s 0 → stack_of (set s 0 1) 1 ≡ 1 ∷ []
unfolding pass_rules
first_stack s c = λ j. get_or-set_same s 0 1 0 (omega (arith, c.long)) j ∷ []

pub first_clear : (s : List ℕ) → Clear s 0 → Clear (set s 0 1) 1
first_clear s c =
    record {
      long = length-set s 0 1 ∙ c.long;
      above = λ i l. get_or-set_other s 0 i 1 0 (λ e. omega arith) ∙ c.above i (omega arith);
    }

-- by what the node is
pub push_as : {x y : leaf.Node} {s s' : List ℕ} {top r : ℕ} → x ≡ y → Pushed s s' top r (flags (node_of y [])) → Pushed s s' top r (flags (node_of x []))
push_as {x} {y} {s} {s'} {top} {r} e p = subst (λ (n : leaf.Node). Pushed s s' top r (flags (node_of n []))) (sym e) p

-- ---- an empty stack

get_or_nothing : (n i : ℕ) → get_or {A = ℕ} (replicate n 0) i 0 ≡ 0
get_or_nothing zero i = refl
get_or_nothing (suc n) zero = refl
get_or_nothing (suc n) (suc i) = get_or_nothing n i

pub empty_clear : (s : List ℕ) (n : ℕ) → s ≡ replicate n 0 → n ≡ 4096 → Clear s 0
empty_clear s n e long =
    record {
      long = ap length e ∙ length-replicate n 0 ∙ long;
      above = λ i l. ap (λ (x : List ℕ). get_or x i 0) e ∙ get_or_nothing n i;
    }

pub empty_long : (s : List ℕ) (n : ℕ) → s ≡ replicate n 0 → length s ≡ n
empty_long s n e = ap length e ∙ length-replicate n 0
