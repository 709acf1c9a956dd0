-- A map is known by its length and its states; one state stored at many slots. Assumes nothing.
use mathlib.Core.Path.{◌≡◌, refl, sym, ap, ◌∙◌}
use mathlib.Core.Bool.{Bool, true, false}
use mathlib.Core.List.{List, [], ◌∷◌}
use mathlib.Core.Logic.{⊎_elim}
use Prim.Native.Nat.{ℕ, ◌+◌, ◌*◌, ◌/◌, ◌%◌, ◌<◌}
use native.Mathlib.Omega.{arith}
use native.Mathlib.Decide.{ℕ_discrete}
use borrow.Author.Tests.{ne_eqb}
use lib.ListN.{length, get_or}
use lib.Seq.{ext_get_or}
use Rattle.laws.specs.Basics.{either, member, basics}
use Rattle.laws.proofs.Below.{agree}
use Rattle.laws.proofs.Tests.{true≢false}
use Rattle.laws.proofs.Members.{member_cases, first_member, later_member}
use Rattle.rules.specs.Map.{state_in, state_of, set_state, map_rules}
use Rattle.rules.proofs.TwoBits.{Bytes, set-state-length, state_same, state_other, stay_bytes}
use Rattle.heap_mark.specs.Marks.{set_states}

-- a byte is its four states
byte_is : (b : ℕ) → b < 256 → b ≡ state_in b 0 + 4 * (state_in b 1 + 4 * (state_in b 2 + 4 * state_in b 3))
unfolding map_rules basics
byte_is b x = agree 256 (λ b. b) (λ b. state_in b 0 + 4 * (state_in b 1 + 4 * (state_in b 2 + 4 * state_in b 3))) tt b x

byte_again : (a b : ℕ) → a < 256 → b < 256 → state_in a 0 ≡ state_in b 0 → state_in a 1 ≡ state_in b 1 → state_in a 2 ≡ state_in b 2 → state_in a 3 ≡ state_in b 3 → a ≡ b
byte_again a b x y p q r t = byte_is a x ∙ (λ i. p i + 4 * (q i + 4 * (r i + 4 * t i))) ∙ sym (byte_is b y)

pub same_states : (m n : List ℕ) → Bytes m → Bytes n → length m ≡ length n → ((s : ℕ) → state_of m s ≡ state_of n s) → m ≡ n
unfolding map_rules
same_states m n a b size e =
    ext_get_or 0 m n size
    (λ k l. byte_again (get_or m k 0) (get_or n k 0) (a k) (b k) (place k 0 (omega arith)) (place k 1 (omega arith)) (place k 2 (omega arith)) (place k 3 (omega arith)))
  where
    place : (k p : ℕ) → p < 4 → state_in (get_or m k 0) p ≡ state_in (get_or n k 0) p
    place k p l =
        let d : (4 * k + p) / 4 ≡ k = omega arith in
        let r : (4 * k + p) % 4 ≡ p = omega arith in
        (λ i. state_in (get_or m (sym d i) 0) (sym r i)) ∙ e (4 * k + p) ∙ (λ i. state_in (get_or n (d i) 0) (r i))

-- ---- one state at many slots

module _ (v : ℕ) (small : v < 4) where
  pub states_length : (ss m : List ℕ) → length (set_states m ss v) ≡ length m
  unfolding set_states
  states_length [] m = refl
  states_length (s ∷ ss) m = states_length ss (set_state m s v) ∙ set-state-length m s v

  pub states_bytes : (ss m : List ℕ) → Bytes m → Bytes (set_states m ss v)
  unfolding set_states
  states_bytes [] m b = b
  states_bytes (s ∷ ss) m b = states_bytes ss (set_state m s v) (stay_bytes m s v small b)

  pub states_other : (ss m : List ℕ) (s : ℕ) → member s ss ≡ false → state_of (set_states m ss v) s ≡ state_of m s
  unfolding set_states basics
  states_other [] m s e = refl
  states_other (x ∷ ss) m s e =
      elim (ℕ_discrete s x) [
        | yes q ↦ absurd (true≢false (sym (ap (λ (n : ℕ). member n (x ∷ ss)) q ∙ first_member x ss) ∙ e))
        | no d ↦
            states_other ss (set_state m x v) s (ap (λ (b : Bool). either b (member s ss)) (sym (ne_eqb s x d)) ∙ e)
            ∙ state_other m x v small s d
      ]

  -- what is stored stays
  states_stay : (ss m : List ℕ) (s : ℕ) → ((t : ℕ) → member t ss ≡ true → t / 4 < length m) → state_of m s ≡ v → state_of (set_states m ss v) s ≡ v
  unfolding set_states
  states_stay [] m s in_map e = e
  states_stay (x ∷ ss) m s in_map e =
      let size = set-state-length m x v in
      states_stay ss (set_state m x v) s (λ t l. omega (arith, in_map t (later_member t x ss l)))
      (elim (ℕ_discrete s x) [
        | yes q ↦ ap (state_of (set_state m x v)) q ∙ state_same m x v small (in_map x (first_member x ss))
        | no d ↦ state_other m x v small s d ∙ e
      ])

  pub states_here : (ss m : List ℕ) (s : ℕ) → ((t : ℕ) → member t ss ≡ true → t / 4 < length m) → member s ss ≡ true → state_of (set_states m ss v) s ≡ v
  unfolding set_states basics
  states_here [] m s in_map e = absurd (true≢false (sym e))
  states_here (x ∷ ss) m s in_map e =
      let size = set-state-length m x v in
      let later : (t : ℕ) → member t ss ≡ true → t / 4 < length (set_state m x v) = λ t l. omega (arith, in_map t (later_member t x ss l)) in
      ⊎_elim
      (λ q.
      states_stay ss (set_state m x v) s later
      (ap (state_of (set_state m x v)) q ∙ state_same m x v small (in_map x (first_member x ss))))
      (λ q. states_here ss (set_state m x v) s later q) (member_cases s x ss e)
