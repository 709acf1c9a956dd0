-- Growth: whole chunks stay whole, a size never falls, no more steps than `most_growths` are ever taken, and a capacity
-- that growth reached is one that the chunk grows to. Document 01, "n chunks grow to n × 3/2 rounded up". Assumes nothing.
use mathlib.Core.Path.{◌≡◌, refl, sym, ap, ◌∙◌, subst}
use mathlib.Core.Bool.{Bool, true, false}
use mathlib.Core.Logic.{⊎_elim}
use Prim.Native.Nat.{ℕ, zero, suc, ◌+◌, ◌-◌, ◌*◌, ◌/◌, ◌%◌, ◌≤◌, ◌<◌}
use native.Mathlib.Nat.{le_trans, mul-lt-mul_of_pos_right, mul-div_cancel, mul-le-mul, mul-le-mul_right, div-le_self, mul_left_comm}
use native.Mathlib.Omega.{arith}
use native.Mathlib.Decide.{dec_le, dec_lt}
use borrow.Author.Tests.{le-leb, lt-leb, eqb-true, eq-eqb, ne_eqb}
use lib.Dec.{eqb}
use Rattle.laws.specs.Basics.{either}
use Rattle.laws.proofs.Tests.{either_cases, either_right, either_false}
use Rattle.rules.specs.Heap.{grown, fitting, reaches, most_growths}

-- ---- one step

-- what k chunks grow to, in chunks
abbrev pub more : ℕ → ℕ
more k = (3 * k + 1) / 2

pub grown_chunks : (chunk k : ℕ) → 0 < chunk → grown chunk (k * chunk) ≡ more k * chunk
unfolding grown
grown_chunks chunk k h = ap (λ (n : ℕ). more n * chunk) (mul-div_cancel k h)

-- the size is whole chunks
pub record Whole (chunk size : ℕ) : Type 0 where
  pub chunks : ℕ
  pub is : size ≡ chunks * chunk

pub grown_whole : (chunk size : ℕ) → Whole chunk (grown chunk size)
unfolding grown
grown_whole chunk size = record { chunks = more (size / chunk); is = refl }

pub one_whole : (chunk : ℕ) → Whole chunk chunk
one_whole chunk = record { chunks = 1; is = omega arith }

pub no_less : (chunk size : ℕ) → 0 < chunk → Whole chunk size → size ≤ grown chunk size
no_less chunk size h w =
    subst (λ (n : ℕ). n ≤ grown chunk n) (sym w.is)
    (omega (arith, grown_chunks chunk w.chunks h, mul-le-mul_right {m = w.chunks} {n = more w.chunks} chunk (omega arith)))

pub whole_again : (chunk size next : ℕ) → next ≡ grown chunk size → Whole chunk next
whole_again chunk size next e = subst (λ (n : ℕ). Whole chunk n) (sym e) (grown_whole chunk size)

-- the numbers that the code makes on the way
pub chunks_small : (chunk size : ℕ) → size ≤ 4096 → 3 * (size / chunk) + 1 ≤ 12289
chunks_small chunk size h = omega (arith, div-le_self size chunk)

pub grown_small : (chunk size : ℕ) → chunk ≤ 4096 → size ≤ 4096 → (3 * (size / chunk) + 1) / 2 * chunk ≤ 6144 * 4096
grown_small chunk size c h = let l : (3 * (size / chunk) + 1) / 2 ≤ 6144 = omega (arith, chunks_small chunk size h) in mul-le-mul l c

-- ---- fitting

module _ (chunk lent size : ℕ) where
  -- the grown size fits: growth goes on from it
  pub fitting_on : (n : ℕ) → grown chunk size ≤ lent → fitting (suc n) chunk lent size ≡ fitting n chunk lent (grown chunk size)
  unfolding fitting
  fitting_on n h =
      ap (λ (b : Bool). elim b [ true ↦ fitting n chunk lent (grown chunk size) | false ↦ size ])
      (le-leb (grown chunk size) lent h)

  -- it does not: growth ends here
  pub fitting_end : (n : ℕ) → lent < grown chunk size → fitting n chunk lent size ≡ size
  unfolding fitting
  fitting_end zero h = refl
  fitting_end (suc n) h =
      ap (λ (b : Bool). elim b [ true ↦ fitting n chunk lent (grown chunk size) | false ↦ size ])
      (lt-leb (grown chunk size) lent h)

  -- the same with the steps that are left as the code counts them
  pub fitting_step : (left next : ℕ) → 0 < left → next ≡ grown chunk size → next ≤ lent → fitting (left - 1) chunk lent next ≡ fitting left chunk lent size
  fitting_step zero next p e h = absurd (omega arith)
  fitting_step (suc n) next p e h =
      let less : suc n - 1 ≡ n = omega arith in
      (λ i. fitting (less i) chunk lent (e i)) ∙ sym (fitting_on n (omega arith))

  pub fitting_none : (left : ℕ) → left ≡ 0 → fitting left chunk lent size ≡ size
  unfolding fitting
  fitting_none left e = ap (λ (m : ℕ). fitting m chunk lent size) e

-- ---- reaches

module _ (chunk goal : ℕ) where
  pub reaches_here : (n size : ℕ) → size ≡ goal → reaches n chunk goal size ≡ true
  unfolding reaches
  reaches_here zero size e = eq-eqb size goal e
  reaches_here (suc n) size e = rw (eq-eqb size goal e)

  -- a size that passed the goal does not come back to it
  pub reaches_past : (n size : ℕ) → 0 < chunk → Whole chunk size → goal < size → reaches n chunk goal size ≡ false
  unfolding reaches
  reaches_past zero size p w h = ne_eqb size goal (λ e. omega arith)
  reaches_past (suc n) size p w h =
      rw (ne_eqb size goal (λ e. omega arith))
      (reaches_past n (grown chunk size) p (grown_whole chunk size) (omega (arith, no_less chunk size p w)))

  pub reaches_step : (left size next : ℕ) → (left ≡ 0 → ⊥) → size < goal → next ≡ grown chunk size → reaches (left - 1) chunk goal next ≡ reaches left chunk goal size
  unfolding reaches
  reaches_step zero size next p h e = absurd (p refl)
  reaches_step (suc n) size next p h e =
      let less : suc n - 1 ≡ n = omega arith in
      rw (ne_eqb size goal (λ e. omega arith)) (λ i. reaches (less i) chunk goal (e i))

  pub reaches_none : (left size : ℕ) → left ≡ 0 → size < goal → reaches left chunk goal size ≡ false
  unfolding reaches
  reaches_none left size e h =
      ap (λ (m : ℕ). reaches m chunk goal size) e ∙ ne_eqb size goal (λ e. omega arith)

  -- at the goal or past it, the test of the size is the answer
  pub reaches_end : (left size : ℕ) → 0 < chunk → Whole chunk size → goal ≤ size → reaches left chunk goal size ≡ eqb size goal
  reaches_end left size p w h =
      elim (dec_lt goal size) [
        | yes l ↦ reaches_past left size p w l ∙ sym (ne_eqb size goal (λ e. omega arith))
        | no l ↦ let e : size ≡ goal = omega arith in reaches_here left size e ∙ sym (eq-eqb size goal e)
      ]

-- ---- growth never needs more steps than it is given

-- n steps of growth, in chunks
unfoldable pub steps : ℕ → ℕ → ℕ
steps zero k = k
steps (suc n) k = steps n (more k)

steps_more : (n j k : ℕ) → j ≤ k → steps n j ≤ steps n k
unfolding steps
steps_more zero j k h = h
steps_more (suc n) j k h = steps_more n (more j) (more k) (omega arith)

-- where so many steps pass the lent slots, one step more changes nothing
fitting_enough : (chunk lent : ℕ) → 0 < chunk → (n k : ℕ) → lent < steps n k * chunk → fitting (suc n) chunk lent (k * chunk) ≡ fitting n chunk lent (k * chunk)
unfolding steps
fitting_enough chunk lent p zero k h =
    fitting_end chunk lent (k * chunk) 1 (omega (arith, no_less chunk (k * chunk) p (record { chunks = k; is = refl })))
    ∙ sym (fitting_none chunk lent (k * chunk) 0 refl)
fitting_enough chunk lent p (suc n) k h =
    elim (dec_le (grown chunk (k * chunk)) lent) [
      | yes l ↦
          fitting_on chunk lent (k * chunk) (suc n) l
          ∙ subst (λ (size : ℕ). fitting (suc n) chunk lent size ≡ fitting n chunk lent size) (sym (grown_chunks chunk k p))
          (fitting_enough chunk lent p n (more k) h)
          ∙ sym (fitting_on chunk lent (k * chunk) n l)
      | no l ↦
          fitting_end chunk lent (k * chunk) (suc (suc n)) (omega arith)
          ∙ sym (fitting_end chunk lent (k * chunk) (suc n) (omega arith))
    ]

most_pass : 1025 ≤ steps 31 1
unfolding steps
most_pass = omega arith

-- a positive size is one chunk at least
pub positive_chunks : (chunk size : ℕ) → 0 < size → Whole chunk size → 0 < chunk → 1 ≤ size / chunk
positive_chunks chunk size p w c =
    let e : size / chunk ≡ w.chunks = ap (λ (n : ℕ). n / chunk) w.is ∙ mul-div_cancel w.chunks c in
    elim (dec_le 1 w.chunks) [
      | yes l ↦ omega arith
      | no l ↦ let z : w.chunks ≡ 0 = omega arith in absurd (omega (arith, w.is, ap (λ (n : ℕ). n * chunk) z))
    ]

fitting_more : (chunk lent size k : ℕ) → 0 < chunk → size ≡ k * chunk → lent < steps 31 k * chunk → fitting 31 chunk lent size ≡ fitting 32 chunk lent size
fitting_more chunk lent size k p e h =
    subst (λ (n : ℕ). fitting 31 chunk lent n ≡ fitting 32 chunk lent n) (sym e) (sym (fitting_enough chunk lent p 31 k h))

-- growing leaves the size that growth ends at as it is
pub fitting_grown : (chunk lent size : ℕ) → 4 ≤ chunk → lent ≤ 4096 → 0 < size → Whole chunk size → grown chunk size ≤ lent → fitting most_growths chunk lent (grown chunk size) ≡ fitting most_growths chunk lent size
unfolding grown
fitting_grown chunk lent size c l p w h =
    let q : 0 < chunk = omega arith in
    let many : 1 ≤ more (size / chunk) = omega (arith, positive_chunks chunk size p w q) in
    let long : 1025 * 4 ≤ steps 31 (more (size / chunk)) * chunk = mul-le-mul (le_trans most_pass (steps_more 31 1 (more (size / chunk)) many)) c in
    sym (fitting_more chunk lent (grown chunk size) (more (size / chunk)) q refl (omega arith))
    ∙ sym (fitting_on chunk lent size 31 h)

-- a positive size grows
pub rises : (chunk size : ℕ) → 0 < chunk → 0 < size → Whole chunk size → size < grown chunk size
rises chunk size c p w =
    let k = w.chunks in
    let e : size / chunk ≡ k = ap (λ (n : ℕ). n / chunk) w.is ∙ mul-div_cancel k c in
    let many : 1 ≤ k = omega (arith, positive_chunks chunk size p w c) in
    let up : k < more k = omega arith in
    subst (λ (n : ℕ). n < grown chunk n) (sym w.is)
    (subst (λ (n : ℕ). k * chunk < n) (sym (grown_chunks chunk k c)) (mul-lt-mul_of_pos_right up c))

-- growth ends at this size or above it, and within the lent slots
pub fitting_least : (n chunk lent size : ℕ) → 0 < chunk → Whole chunk size → size ≤ fitting n chunk lent size
fitting_least zero chunk lent size c w = omega (arith, fitting_none chunk lent size 0 refl)
fitting_least (suc n) chunk lent size c w =
    elim (dec_le (grown chunk size) lent) [
      | yes l ↦
          omega (arith, fitting_on chunk lent size n l, no_less chunk size c w, fitting_least n chunk lent (grown chunk size) c (grown_whole chunk size))
      | no l ↦ omega (arith, fitting_end chunk lent size (suc n) (omega arith))
    ]

pub fitting_most : (n chunk lent size : ℕ) → size ≤ lent → fitting n chunk lent size ≤ lent
fitting_most zero chunk lent size h = omega (arith, fitting_none chunk lent size 0 refl)
fitting_most (suc n) chunk lent size h =
    elim (dec_le (grown chunk size) lent) [
      | yes l ↦ omega (arith, fitting_on chunk lent size n l, fitting_most n chunk lent (grown chunk size) l)
      | no l ↦ omega (arith, fitting_end chunk lent size (suc n) (omega arith))
    ]

-- ---- a capacity that growth reached, with no bound on the steps

-- the size after n steps of growth
unfoldable pub grown_by : ℕ → ℕ → ℕ → ℕ
grown_by zero chunk size = size
grown_by (suc n) chunk size = grown_by n chunk (grown chunk size)

-- the chunk grows to this size
pub record Reached (chunk size : ℕ) : Type 0 where
  pub times : ℕ
  pub is : size ≡ grown_by times chunk chunk

grown_last : (n chunk size : ℕ) → grown chunk (grown_by n chunk size) ≡ grown_by (suc n) chunk size
unfolding grown_by
grown_last zero chunk size = refl
grown_last (suc n) chunk size = grown_last n chunk (grown chunk size)

pub reached_first : (chunk : ℕ) → Reached chunk chunk
unfolding grown_by
reached_first chunk = record { times = 0; is = refl }

pub reached_next : (chunk size next : ℕ) → Reached chunk size → next ≡ grown chunk size → Reached chunk next
reached_next chunk size next r e =
    record { times = suc r.times; is = e ∙ ap (grown chunk) r.is ∙ grown_last r.times chunk chunk }

-- in chunks
grown_steps : (chunk : ℕ) → 0 < chunk → (n k : ℕ) → grown_by n chunk (k * chunk) ≡ steps n k * chunk
unfolding grown_by steps
grown_steps chunk p zero k = refl
grown_steps chunk p (suc n) k = ap (grown_by n chunk) (grown_chunks chunk k p) ∙ grown_steps chunk p n (more k)

pub reached_steps : (chunk size : ℕ) → 0 < chunk → (r : Reached chunk size) → size ≡ steps r.times 1 * chunk
reached_steps chunk size p r =
    let one : chunk ≡ 1 * chunk = omega arith in
    r.is ∙ ap (grown_by r.times chunk) one ∙ grown_steps chunk p r.times 1

pub reached_whole : (chunk size : ℕ) → 0 < chunk → Reached chunk size → Whole chunk size
reached_whole chunk size p r = record { chunks = steps r.times 1; is = reached_steps chunk size p r }

steps_least : (n k : ℕ) → k ≤ steps n k
unfolding steps
steps_least zero k = omega arith
steps_least (suc n) k = omega (arith, steps_least n (more k))

steps_add : (m n k : ℕ) → steps (m + n) k ≡ steps n (steps m k)
unfolding steps
steps_add zero n k = let e : 0 + n ≡ n = omega arith in ap (λ (x : ℕ). steps x k) e
steps_add (suc m) n k = let e : suc m + n ≡ suc (m + n) = omega arith in ap (λ (x : ℕ). steps x k) e ∙ steps_add m n (more k)

pub reached_least : (chunk size : ℕ) → 0 < chunk → Reached chunk size → chunk ≤ size
reached_least chunk size p r =
    omega (arith, reached_steps chunk size p r, mul-le-mul_right {m = 1} {n = steps r.times 1} chunk (steps_least r.times 1))

-- within 4,096 slots growth took fewer steps than are allowed
few : (chunk size : ℕ) → 4 ≤ chunk → size ≤ 4096 → (r : Reached chunk size) → r.times < 31
few chunk size c l r =
    elim (dec_lt r.times 31) [
      | yes h ↦ h
      | no h ↦
          let k = r.times - 31 in
          let e : r.times ≡ 31 + k = omega arith in
          let many : steps 31 1 ≤ steps r.times 1 = omega (arith, ap (λ (x : ℕ). steps x 1) e, steps_add 31 k 1, steps_least k (steps 31 1)) in
          let long : 1025 * 4 ≤ steps r.times 1 * chunk = mul-le-mul (le_trans most_pass many) c in
          absurd (omega (arith, reached_steps chunk size (omega arith) r))
    ]

reaches_grown_by : (n j chunk size : ℕ) → reaches (n + j) chunk (grown_by n chunk size) size ≡ true
unfolding grown_by reaches
reaches_grown_by zero j chunk size = reaches_here chunk size (0 + j) size refl
reaches_grown_by (suc n) j chunk size =
    let e : suc n + j ≡ suc (n + j) = omega arith in
    ap (λ (x : ℕ). reaches x chunk (grown_by (suc n) chunk size) size) e
    ∙ either_right (eqb size (grown_by (suc n) chunk size)) (reaches_grown_by n j chunk (grown chunk size))

-- "growth reaches the capacity", both ways
pub reached_reaches : (chunk size : ℕ) → 4 ≤ chunk → size ≤ 4096 → Reached chunk size → reaches most_growths chunk size chunk ≡ true
reached_reaches chunk size c l r =
    let k = most_growths - r.times in
    let e : most_growths ≡ r.times + k = omega (arith, few chunk size c l r) in
    ap (λ (x : ℕ). reaches x chunk size chunk) e ∙ ap (λ (x : ℕ). reaches (r.times + k) chunk x chunk) r.is
    ∙ reaches_grown_by r.times k chunk chunk

pub reaches_reached : (n chunk goal size : ℕ) → Reached chunk size → reaches n chunk goal size ≡ true → Reached chunk goal
unfolding reaches
reaches_reached zero chunk goal size r e = subst (λ (x : ℕ). Reached chunk x) (eqb-true size goal e) r
reaches_reached (suc n) chunk goal size r e =
    ⊎_elim (λ p. subst (λ (x : ℕ). Reached chunk x) (eqb-true size goal p) r)
    (λ p. reaches_reached n chunk goal (grown chunk size) (reached_next chunk size (grown chunk size) r refl) p)
    (either_cases (eqb size goal) _ e)

-- whole chunks of whole fours are whole fours
pub fours : (chunk size : ℕ) → chunk % 4 ≡ 0 → Whole chunk size → size % 4 ≡ 0
fours chunk size f w =
    let q = chunk / 4 in
    let c : chunk ≡ 4 * q = omega arith in
    let e : size ≡ 4 * (w.chunks * q) = w.is ∙ ap (λ (n : ℕ). w.chunks * n) c ∙ mul_left_comm w.chunks 4 q in
    omega arith

-- ---- "growth reaches the capacity" after growing too

reaches_more : (n chunk goal size : ℕ) → reaches n chunk goal size ≡ true → reaches (suc n) chunk (grown chunk goal) size ≡ true
unfolding reaches
reaches_more zero chunk goal size e =
    either_right (eqb size (grown chunk goal))
    (eq-eqb (grown chunk size) (grown chunk goal) (ap (grown chunk) (eqb-true size goal e)))
reaches_more (suc n) chunk goal size e =
    either_right (eqb size (grown chunk goal))
    (⊎_elim
    (λ here. reaches_here chunk (grown chunk goal) (suc n) (grown chunk size) (ap (grown chunk) (eqb-true size goal here)))
    (λ later. reaches_more n chunk goal (grown chunk size) later) (either_cases (eqb size goal) _ e))

-- where one step more passes the goal, it changes nothing
reaches_enough : (chunk goal : ℕ) → 0 < chunk → (n k : ℕ) → goal < steps (suc n) k * chunk → reaches (suc n) chunk goal (k * chunk) ≡ reaches n chunk goal (k * chunk)
unfolding reaches steps
reaches_enough chunk goal p zero k h =
    ap (either (eqb (k * chunk) goal)) (ne_eqb (grown chunk (k * chunk)) goal (λ e. omega (arith, grown_chunks chunk k p)))
    ∙ either_false (eqb (k * chunk) goal)
reaches_enough chunk goal p (suc n) k h =
    ap (either (eqb (k * chunk) goal))
    (subst (λ (size : ℕ). reaches (suc n) chunk goal size ≡ reaches n chunk goal size) (sym (grown_chunks chunk k p))
    (reaches_enough chunk goal p n (more k) h))

all_pass : 1025 ≤ steps 33 1
unfolding steps
all_pass = omega arith

pub reaches_grown : (chunk size : ℕ) → 4 ≤ chunk → grown chunk size ≤ 4096 → reaches most_growths chunk size chunk ≡ true → reaches most_growths chunk (grown chunk size) chunk ≡ true
reaches_grown chunk size c small e =
    let one : 1 * chunk ≡ chunk = omega arith in
    let long : 1025 * 4 ≤ steps 33 1 * chunk = mul-le-mul all_pass c in
    sym (subst (λ (n : ℕ). reaches 33 chunk (grown chunk size) n ≡ reaches 32 chunk (grown chunk size) n) one
    (reaches_enough chunk (grown chunk size) (omega arith) 32 1 (omega arith)))
    ∙ reaches_more 32 chunk size chunk e
