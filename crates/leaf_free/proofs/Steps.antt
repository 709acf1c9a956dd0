-- What each step on the lent words leaves: their number, the count of the free list, and the next slot. Assumes nothing.
use mathlib.Core.Path.{◌≡◌, refl, sym, ap, ◌∙◌, subst}
use mathlib.Core.Bool.{Bool, true, false}
use mathlib.Core.List.{List}
use Prim.Native.Nat.{ℕ, zero, suc, ◌+◌, ◌-◌, ◌*◌, ◌/◌, ◌≤◌, ◌<◌}
use native.Mathlib.Omega.{arith}
use borrow.Author.Tests.{eq-eqb, ne_eqb}
use lib.ListN.{length, get_or, set, length-set}
use lib.Seq.{get_or-set_same, get_or-set_other}
use Rattle.rules.specs.Map.{set_state, Allocated}
use Rattle.leaf_free.specs.FreeList.{capacity_of, count_of, goal_of, place, pushed, joined, grown_words, fallen, fresh_words, popped, ready, CanStart, CanGrow, CanPop, Popped}

-- ---- push

pub length-pushed : (ws : List ℕ) (s : ℕ) → length (pushed ws s) ≡ length ws
unfolding pushed
length-pushed ws s = simp length-set

pub count_pushed : (ws : List ℕ) (s : ℕ) → 3 ≤ length ws → count_of (pushed ws s) ≡ count_of ws + 1
unfolding pushed
count_pushed ws s h = get_or-set_same (set ws (place (count_of ws)) s) 2 (count_of ws + 1) 0 (simp length-set (omega arith))

-- ---- joining slots

pub joined_step : (ws : List ℕ) (s goal : ℕ) → s < goal → joined (pushed ws s) (s + 1) (goal - (s + 1)) ≡ joined ws s (goal - s)
unfolding joined
joined_step ws s goal h =
    let n = goal - (s + 1) in
    let a : s + 1 ≡ suc s = omega arith in
    let b : suc n ≡ goal - s = omega arith in
    (λ i. joined (pushed ws s) (a i) n) ∙ (λ i. joined ws s (b i))

pub joined_done : (ws : List ℕ) (s goal : ℕ) → goal ≤ s → joined ws s (goal - s) ≡ ws
unfolding joined
joined_done ws s goal h = let e : goal - s ≡ 0 = omega arith in (λ i. joined ws s (e i))

pub length-joined : (n : ℕ) (ws : List ℕ) (s : ℕ) → length (joined ws s n) ≡ length ws
unfolding joined
length-joined zero ws s = refl
length-joined (suc n) ws s = length-joined n (pushed ws s) (suc s) ∙ length-pushed ws s

pub length-grown : (ws : List ℕ) → length (grown_words ws) ≡ length ws
unfolding grown_words
length-grown ws =
    length-joined (goal_of ws - capacity_of ws) (set ws 1 (goal_of ws)) (capacity_of ws) ∙ length-set ws 1 (goal_of ws)

-- the loop of growth: what is left to join, and a row for each of its places
pub record Joining (ws₀ : List ℕ) (size goal : ℕ) (ws : List ℕ) (s : ℕ) : Type 0 where
  pub same_size : length ws ≡ length ws₀
  pub header : 3 ≤ length ws
  pub rows : 8 + 8 * (count_of ws + (goal - s)) ≤ length ws
  pub rest : joined ws s (goal - s) ≡ joined ws₀ size (goal - size)

pub joining : (ws : List ℕ) (goal : ℕ) → CanGrow ws → goal ≡ goal_of ws → Joining (set ws 1 goal) (capacity_of ws) goal (set ws 1 goal) (capacity_of ws)
joining ws goal g e =
    let kept : count_of (set ws 1 goal) ≡ count_of ws = get_or-set_other ws 1 2 goal 0 (λ q. omega arith) in
    let size = length-set ws 1 goal in
    let long = g.header in
    let rows = g.rows in
    record { same_size = refl; header = omega arith; rows = omega arith; rest = refl }

pub joining_on : (ws₀ : List ℕ) (size goal : ℕ) (ws : List ℕ) (s : ℕ) (ws' : List ℕ) → Joining ws₀ size goal ws s → s < goal → ws' ≡ pushed ws s → Joining ws₀ size goal ws' (s + 1)
joining_on ws₀ size goal ws s ws' j h e =
    let same : length ws' ≡ length ws = ap length e ∙ length-pushed ws s in
    let one : count_of ws' ≡ count_of ws + 1 = ap count_of e ∙ count_pushed ws s j.header in
    let a = j.same_size in
    let b = j.header in
    let r = j.rows in
    record {
      same_size = same ∙ a;
      header = omega arith;
      rows = omega arith;
      rest = (λ i. joined (e i) (s + 1) (goal - (s + 1))) ∙ joined_step ws s goal h ∙ j.rest;
    }

pub joining_ends : (ws₀ ws : List ℕ) (size goal s : ℕ) → Joining ws₀ size goal ws s → goal ≤ s → ws ≡ joined ws₀ size (goal - size)
joining_ends ws₀ ws size goal s j h = sym (joined_done ws s goal h) ∙ j.rest

-- what was joined is what growth joins
pub grows : (ws : List ℕ) (goal : ℕ) → goal ≡ goal_of ws → joined (set ws 1 goal) (capacity_of ws) (goal - capacity_of ws) ≡ grown_words ws
unfolding grown_words
grows ws goal e = λ i. joined (set ws 1 (e i)) (capacity_of ws) (e i - capacity_of ws)

-- ---- a fresh list

pub length-fallen : (n : ℕ) (ws : List ℕ) → length (fallen ws n) ≡ length ws
unfolding fallen
length-fallen zero ws = refl
length-fallen (suc n) ws = length-fallen n (pushed ws n) ∙ length-pushed ws n

pub length-fresh : (ws : List ℕ) (chunk : ℕ) → length (fresh_words ws chunk) ≡ length ws
unfolding fresh_words
length-fresh ws chunk = length-fallen chunk (set (set (set ws 0 chunk) 1 chunk) 6 1) ∙ simp length-set

-- its loop: what is left to push, and a row for each of its places
pub record Falling (ws₀ : List ℕ) (chunk : ℕ) (ws : List ℕ) (s : ℕ) : Type 0 where
  pub same_size : length ws ≡ length ws₀
  pub header : 3 ≤ length ws
  pub rows : 8 + 8 * (count_of ws + s) ≤ length ws
  pub rest : fallen ws s ≡ fallen ws₀ chunk

abbrev headed : List ℕ → ℕ → List ℕ
headed ws chunk = set (set (set ws 0 chunk) 1 chunk) 6 1

pub headed_length : (ws : List ℕ) (chunk : ℕ) → length (headed ws chunk) ≡ length ws
headed_length ws chunk = simp length-set

headed_count : (ws : List ℕ) (chunk : ℕ) → count_of (headed ws chunk) ≡ count_of ws
headed_count ws chunk =
    get_or-set_other (set (set ws 0 chunk) 1 chunk) 6 2 1 0 (λ e. omega arith)
    ∙ get_or-set_other (set ws 0 chunk) 1 2 chunk 0 (λ e. omega arith) ∙ get_or-set_other ws 0 2 chunk 0 (λ e. omega arith)

pub falls : (ws : List ℕ) (chunk : ℕ) → CanStart ws chunk → Falling (headed ws chunk) chunk (headed ws chunk) chunk
falls ws chunk p =
    let size = headed_length ws chunk in
    let count = headed_count ws chunk in
    let long = p.header in
    let rows = p.rows in
    record { same_size = refl; header = omega arith; rows = omega arith; rest = refl }

pub falls_on : (ws₀ : List ℕ) (chunk : ℕ) (ws : List ℕ) (s : ℕ) (ws' : List ℕ) → Falling ws₀ chunk ws s → 0 < s → ws' ≡ pushed ws (s - 1) → Falling ws₀ chunk ws' (s - 1)
unfolding fallen
falls_on ws₀ chunk ws s ws' f h e =
    let same : length ws' ≡ length ws = ap length e ∙ length-pushed ws (s - 1) in
    let one : count_of ws' ≡ count_of ws + 1 = ap count_of e ∙ count_pushed ws (s - 1) f.header in
    let a = f.same_size in
    let b = f.header in
    let r = f.rows in
    let up : suc (s - 1) ≡ s = omega arith in
    record {
      same_size = same ∙ a;
      header = omega arith;
      rows = omega arith;
      rest = (λ i. fallen (e i) (s - 1)) ∙ (λ i. fallen ws (up i)) ∙ f.rest;
    }

pub falls_ends : (ws ws' : List ℕ) (chunk s : ℕ) → Falling (headed ws chunk) chunk ws' s → s ≡ 0 → ws' ≡ fresh_words ws chunk
unfolding fresh_words fallen
falls_ends ws ws' chunk s f e = (λ i. fallen ws' (sym e i)) ∙ f.rest

-- ---- pop

pub length-popped : (ws : List ℕ) → length (popped ws) ≡ length ws
unfolding popped
length-popped ws = simp length-set

-- the place of the next slot as the code has it
pub pops_state : (ws map : List ℕ) (at : ℕ) → CanPop ws map → at ≡ place (count_of ws - 1) → get_or ws at 0 / 4 < length map
pops_state ws map at p e = subst (λ (k : ℕ). get_or ws k 0 / 4 < length map) (sym e) p.state

pub pops : (ws map : List ℕ) (at : ℕ) (map' : List ℕ) → at ≡ place (count_of ws - 1) → map' ≡ set_state map (get_or ws at 0) Allocated → Popped ws map (get_or ws at 0) (set (set ws at 0) 2 (count_of ws - 1)) map'
unfolding popped
pops ws map at map' e m =
    record {
      slot_taken = ap (λ (k : ℕ). get_or ws k 0) e;
      words_left = ap (λ (k : ℕ). set (set ws k 0) 2 (count_of ws - 1)) e;
      map_left = m ∙ ap (λ (k : ℕ). set_state map (get_or ws k 0) Allocated) e;
    }

-- ---- alloc

pub ready_empty : (ws : List ℕ) → count_of ws ≡ 0 → ready ws ≡ grown_words ws
unfolding ready
ready_empty ws h = ap (λ (b : Bool). elim b [ true ↦ grown_words ws | false ↦ ws ]) (eq-eqb (count_of ws) 0 h)

pub ready_already : (ws : List ℕ) → (count_of ws ≡ 0 → ⊥) → ready ws ≡ ws
unfolding ready
ready_already ws h = ap (λ (b : Bool). elim b [ true ↦ grown_words ws | false ↦ ws ]) (ne_eqb (count_of ws) 0 h)

pub length-ready : (ws : List ℕ) → length (ready ws) ≡ length ws
length-ready ws =
    elim (native.Mathlib.Decide.ℕ_discrete (count_of ws) 0) [
      | yes e ↦ ap length (ready_empty ws e) ∙ length-grown ws
      | no d ↦ ap length (ready_already ws d)
    ]

pub length-left : (ws map : List ℕ) (slot : ℕ) (ws' map' : List ℕ) → Popped ws map slot ws' map' → length ws' ≡ length ws
length-left ws map slot ws' map' p = ap length p.words_left ∙ length-popped ws
