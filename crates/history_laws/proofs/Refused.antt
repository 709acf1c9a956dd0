-- A refused call leaves the lists, and so the set. Document 01: "A refusal answers its number only, and leaves heap and output as
-- they stood." Assumes nothing.
use mathlib.Core.Path.{◌≡◌, refl, sym, ap, ◌∙◌}
use mathlib.Core.Bool.{Bool, true, false}
use mathlib.Core.List.{List}
use Prim.Native.Nat.{ℕ}
use Rattle.rules.specs.Refusals.{Refusal, Answer, refused}
use Rattle.rules.specs.Nodes.{bytes, nodes_rules}
use Rattle.rules.specs.Layout.{Lent, heap_of}
use Rattle.rules.specs.Sound.{setup_numbers}
use Rattle.rules.specs.Calls as Calls
use Rattle.rules.specs.Calls.{Stored, put_call, collect_call, of_answer}
use Rattle.rules.proofs.SoundLaws.{setup_refuses, setup_accepts}
use Rattle.rules.proofs.PutSound as PutSound
use Rattle.rules.proofs.PutSound.{PutLeft, put_left}
use Rattle.rules.proofs.StoreSound as StoreSound
use Rattle.rules.proofs.StoreSound.{StoreLeft, cell_store_left, element_store_left}
use Rattle.collect_laws.proofs.CollectSound as CollectSound
use Rattle.collect_laws.proofs.CollectSound.{CollectLeft, collect_left}
use Rattle.history_laws.specs.Taken.{slots_taken}
use Rattle.history_laws.specs.Histories as Histories
use Rattle.history_laws.specs.Histories.{Call, Slots, no_slots, with_slots, reached_of, Moment, moment, lists_after, set_after, after, Refuses, setup_refused, put_refused, cell_store_refused, element_store_refused}
use Rattle.history_laws.proofs.AcceptedPut.{not_refused}

setup_same : (chunk : ℕ) (l : Lent) (r : Refusal) → (Calls.setup chunk l).answer ≡ refused r → (Calls.setup chunk l).lent ≡ l
setup_same chunk l r e = by (setup_numbers chunk l) refl
  where
    by : (b : Bool) → setup_numbers chunk l ≡ b → (Calls.setup chunk l).lent ≡ l
    by true n = absurd (not_refused (sym e ∙ setup_accepts chunk l n))
    by false n = (setup_refuses chunk l n).1

put_same : (l : Lent) (scratch datum : List ℕ) → bytes datum ≡ true → (r : Refusal) → (put_call l scratch datum).answer ≡ refused r → (put_call l scratch datum).lent ≡ l
unfolding nodes_rules
put_same l scratch datum b r e = by (put_left l scratch datum b)
  where
    by : PutLeft l (put_call l scratch datum) → (put_call l scratch datum).lent ≡ l
    by (PutSound.accepts d a) = absurd (not_refused (sym e ∙ a.answer))
    by (PutSound.refuses q a same) = same

collect_same : (l : Lent) (scratch roots : List ℕ) (r : Refusal) → (collect_call l scratch roots).answer ≡ refused r → (collect_call l scratch roots).lent ≡ l
collect_same l scratch roots r e = by (collect_left l scratch roots)
  where
    by : CollectLeft l roots (collect_call l scratch roots) → (collect_call l scratch roots).lent ≡ l
    by (CollectSound.accepts a) = absurd (not_refused (sym e ∙ a.answer))
    by (CollectSound.refuses q a same) = same

store_same : (l : Lent) (x : Stored) → StoreLeft l x → (r : Refusal) → x.answer ≡ refused r → x.lent ≡ l
store_same l x (StoreSound.accepts h a y k z) r e = absurd (not_refused (sym e ∙ a))
store_same l x (StoreSound.refuses q a same) r e = same

lists_same : (l : Lent) (c : Call) → Refuses l c → lists_after c l ≡ l
unfolding lists_after
lists_same l c (setup_refused {chunk} r e) = setup_same chunk l r e
lists_same l c (put_refused {scratch} {datum} {b} r e) = put_same l scratch datum b r e
lists_same l c (Histories.collect_refused {scratch} {roots} r e) = collect_same l scratch roots r e
lists_same l c (cell_store_refused {s} {kind} {a} {b} r e) = store_same l (Calls.cell_store l s kind a b) (cell_store_left l s kind a b) r e
lists_same l c (element_store_refused {s} {i} {kind} {a} r e) = store_same l (Calls.element_store l s i kind a) (element_store_left l s i kind a) r e

set_same : (l : Lent) (set : Slots) (c : Call) → Refuses l c → set_after c l set ≡ set
unfolding set_after of_answer
set_same l set c (setup_refused r e) = ap (λ (x : Answer (Unit {0})). of_answer x (λ a. no_slots) (λ q. set)) e
set_same l set c (put_refused {datum = datum} r e) =
    ap (λ (x : Answer ℕ). of_answer x (λ a. with_slots set (slots_taken datum (heap_of l))) (λ q. set)) e
set_same l set c (Histories.collect_refused {roots = roots} r e) =
    ap (λ (x : Answer (Unit {0})). of_answer x (λ a. reached_of set (heap_of l) roots) (λ q. set)) e
set_same l set c (cell_store_refused r e) = refl
set_same l set c (element_store_refused r e) = refl

pub refused_same : (m : Moment) (c : Call) → Refuses m.lent c → after c m ≡ m
unfolding after
refused_same m c r = λ i. moment (lists_same m.lent c r i) (set_same m.lent m.set c r i)
