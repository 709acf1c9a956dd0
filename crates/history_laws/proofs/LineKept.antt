-- The line is kept over any sequence of calls from a fresh heap, refused ones included. Document 01, "How tight the promises are",
-- demand 3: at every moment the slots in use are the set worked out from the history, every other slot below the capacity stands
-- once on the free list, no put gives a new cell a slot of the set, and reading a kept slot gives after a collection what it gave
-- before. Assumes nothing.
use mathlib.Core.Path.{◌≡◌, refl, subst}
use mathlib.Core.Bool.{Bool, true, false}
use mathlib.Core.List.{List, ◌∷◌}
use mathlib.Core.Logic.{inl}
use Prim.Native.Nat.{ℕ, ◌<◌}
use native.Mathlib.Omega.{arith}
use Rattle.laws.specs.Basics.{count}
use Rattle.rules.specs.Refusals.{accepted}
use Rattle.rules.specs.Nodes.{bytes}
use Rattle.rules.specs.Heap.{capacity, in_use}
use Rattle.rules.specs.Layout.{Lent, heap_of}
use Rattle.rules.specs.Sound.{sound}
use Rattle.rules.specs.Calls as Calls
use Rattle.rules.specs.Calls.{put_call, collect_call}
use Rattle.rules.proofs.Good.{Good, used_slot, not_used}
use Rattle.rules.proofs.GoodSound.{sound_good}
use Rattle.history_laws.specs.Taken.{slots_taken}
use Rattle.history_laws.specs.Histories.{Call, setup, put, collect, Slots, reached_of, Moment, moment, after, after_all, history_rules}
use Rattle.history_laws.specs.Lines.{heap_at, PutLine, CollectLine, Line}
use Rattle.history_laws.proofs.SameValues.{same_fewer, collected_same}
use Rattle.history_laws.proofs.SameAnswers.{same_answers}
use Rattle.history_laws.proofs.PutFacts.{put_puts}
use Rattle.history_laws.proofs.StoredParts.{cell_stored, element_stored}
use Rattle.history_laws.proofs.Refused.{refused_same}
use Rattle.history_laws.proofs.Moments.{Holds, collect_was, reduced, setup_holds, call_holds, all_hold}

module _ (m : Moment) (z : Holds m) where
  good : Good (heap_at m)
  good = sound_good m.lent z.lists_sound

  -- ---- the free list

  free_once : (s : ℕ) → s < capacity (heap_at m) → (m.set s → ⊥) → count s (heap_at m).free ≡ 1
  free_once s l n = by (in_use (heap_at m) s) refl
    where
      by : (b : Bool) → in_use (heap_at m) s ≡ b → count s (heap_at m).free ≡ 1
      by true e = absurd (n ((z.used s).0 e))
      by false e = omega (arith, good.once s l, not_used (heap_at m) good s e)

  not_free : (s : ℕ) → m.set s → count s (heap_at m).free ≡ 0
  not_free s x =
      let u = used_slot (heap_at m) s ((z.used s).1 x) in omega (arith, good.once s u.below, u.state)

  -- ---- a put

  put_line : (scratch datum : List ℕ) (b : bytes datum ≡ true) (answer : ℕ) → (put_call m.lent scratch datum).answer ≡ accepted answer → PutLine m (after (put scratch datum b) m) (slots_taken datum (heap_at m)) answer
  unfolding history_rules
  put_line scratch datum b answer e =
      let p = put_puts m.lent scratch datum b answer e in
      let n = call_holds m z (put scratch datum b) in
      let same = same_fewer p.same (λ s x. (z.used s).1 x) in
      record {
        fresh = λ s new x. p.fresh s new ((z.used s).1 x);
        once = p.once;
        next = p.next;
        counted = p.counted;
        in_set = (n.used answer).0 p.answered;
        cells = λ s x. p.cells s ((z.used s).1 x);
        same = same;
        answers =
            same_answers m.set m.lent (put_call m.lent scratch datum).lent z.lists_sound n.lists_sound p.grown
            (λ s x. (z.used s).1 x)
            (λ s x. (p.exactly s).1 (inl ((z.used s).1 x)))
            same;
      }

  -- ---- a collection

  collect_line : (scratch roots : List ℕ) → (collect_call m.lent scratch roots).answer ≡ accepted tt → CollectLine m (after (collect scratch roots) m) roots
  unfolding history_rules
  collect_line scratch roots e =
      let a = collect_was m.lent scratch roots e in
      let c = a.collected in
      let set = (after (collect scratch roots) m).set in
      let kept : (s : ℕ) → set s → reached_of m.set (heap_at m) roots s = λ s x. subst (λ (set : Slots). set s) (reduced m scratch roots e) x in
      let same = same_fewer (collected_same c) (λ s x. (kept s x).1) in
      record {
        collected = c;
        same = same;
        answers =
            same_answers set m.lent (collect_call m.lent scratch roots).lent z.lists_sound a.lists_sound
            (omega (arith, c.same_capacity))
            (λ s x. (z.used s).1 (kept s x).0)
            (λ s x. (c.exactly s).1 (kept s x).1)
            same;
      }

  -- ---- the line

  pub line : Line m
  unfolding history_rules
  line =
      record {
        lists_sound = z.lists_sound;
        used = z.used;
        free_once = free_once;
        not_free = not_free;
        none_past = good.past;
        puts = put_line;
        collects = collect_line;
        cell_stores = cell_stored m.lent;
        element_stores = element_stored m.lent;
        refusals = refused_same m;
      }

-- from a moment at which the lists are sound and the slots in use are the set
line_from : (m : Moment) → Holds m → (calls : List Call) → Line (after_all calls m)
line_from m z calls = line (after_all calls m) (all_hold calls m z)

-- any lists and any set before; an accepted setup, and then any calls. Each beginning of a history is one too: so at every moment.
pub line_kept : (m : Moment) (chunk : ℕ) → (Calls.setup chunk m.lent).answer ≡ accepted tt → (calls : List Call) → Line (after_all (setup chunk ∷ calls) m)
unfolding history_rules
line_kept m chunk e calls = line_from (after (setup chunk) m) (setup_holds m chunk e) calls

-- and so from any sound lists, whose set is the slots in use
pub line_of_sound : (l : Lent) → sound l ≡ true → (calls : List Call) → Line (after_all calls (moment l (λ s. in_use (heap_of l) s ≡ true)))
line_of_sound l e calls =
    line_from (moment l (λ s. in_use (heap_of l) s ≡ true)) (record { lists_sound = e; used = λ s. (λ u. u, λ u. u) }) calls
