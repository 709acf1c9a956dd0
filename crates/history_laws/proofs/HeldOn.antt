-- What a caller holds on to reads the same in the end, whatever is put, collected and refused meanwhile. Document 01, "Reading back";
-- "How tight the promises are", demand 3 at every moment. Assumes nothing.
use mathlib.Core.Path.{◌≡◌, refl, sym, ap, ◌∙◌}
use mathlib.Core.Bool.{true}
use mathlib.Core.List.{List, ◌∷◌}
use Prim.Native.Nat.{ℕ}
use Rattle.laws.proofs.Tests.{true≢false}
use Rattle.rules.specs.Refusals.{Answer, accepted, refused}
use Rattle.rules.specs.Cells.{Value}
use Rattle.rules.specs.Read.{reading}
use Rattle.rules.specs.Calls as Calls
use Rattle.rules.specs.Calls.{put_call, collect_call}
use Rattle.history_laws.specs.Histories as Histories
use Rattle.history_laws.specs.Histories.{Call, setup, put, collect, cell_store, element_store, read, eqv, equal, text, Moment, after, after_all, put_refused, collect_refused, history_rules}
use Rattle.history_laws.specs.Lines.{heap_at, Held}
use Rattle.history_laws.specs.HeldThrough.{stores_nothing, HeldThrough, to_the_end, through}
use Rattle.history_laws.proofs.Moments.{Holds, setup_holds, call_holds, all_hold}
use Rattle.history_laws.proofs.LineKept.{line}

held_now : {v : Value} {m : Moment} {cs : List Call} → HeldThrough v m cs → Held m.set v
held_now (to_the_end x) = x
held_now (through x q r) = x

-- one call
module _ (v : Value) (m : Moment) (z : Holds m) where
  refused_reads : (c : Call) → after c m ≡ m → reading (heap_at (after c m)) v ≡ reading (heap_at m) v
  refused_reads c e = ap (λ (n : Moment). reading (heap_at n) v) e

  call_reads : (c : Call) → stores_nothing c ≡ true → Held m.set v → Held (after c m).set v → reading (heap_at (after c m)) v ≡ reading (heap_at m) v
  unfolding stores_nothing history_rules
  call_reads (setup chunk) q x y = absurd (true≢false (sym q))
  call_reads (put scratch datum b) q x y = by (put_call m.lent scratch datum).answer refl
    where
      by : (a : Answer ℕ) → (put_call m.lent scratch datum).answer ≡ a → reading (heap_at (after (put scratch datum b) m)) v ≡ reading (heap_at m) v
      by (accepted s) e = ((line m z).puts scratch datum b s e).same.reads v x
      by (refused r) e = refused_reads (put scratch datum b) ((line m z).refusals (put scratch datum b) (put_refused r e))
  call_reads (collect scratch roots) q x y = by (collect_call m.lent scratch roots).answer refl
    where
      by : (a : Answer (Unit {0})) → (collect_call m.lent scratch roots).answer ≡ a → reading (heap_at (after (collect scratch roots) m)) v ≡ reading (heap_at m) v
      by (accepted u) e = ((line m z).collects scratch roots e).same.reads v y
      by (refused r) e = refused_reads (collect scratch roots) ((line m z).refusals (collect scratch roots) (collect_refused r e))
  call_reads (cell_store s kind a b) q x y = absurd (true≢false (sym q))
  call_reads (element_store s i kind a) q x y = absurd (true≢false (sym q))
  call_reads (read scratch out kind a) q x y = refl
  call_reads (eqv kind a kind' a') q x y = refl
  call_reads (equal scratch kind a kind' a') q x y = refl
  call_reads (text s) q x y = refl
  call_reads Histories.capacity q x y = refl
  call_reads Histories.free_count q x y = refl
  call_reads Histories.used_count q x y = refl

all_read : (v : Value) (cs : List Call) (m : Moment) → Holds m → HeldThrough v m cs → reading (heap_at (after_all cs m)) v ≡ reading (heap_at m) v
unfolding after_all
all_read v cs m z (to_the_end x) = refl
all_read v cs m z (through {c = c} {cs = ds} x q r) =
    all_read v ds (after c m) (call_holds m z c) r ∙ call_reads v m z c q x (held_now r)

-- after an accepted setup and any calls, through any further calls
pub held_reads : (m : Moment) (chunk : ℕ) → (Calls.setup chunk m.lent).answer ≡ accepted tt → (first rest : List Call) (v : Value)
    → HeldThrough v (after_all (setup chunk ∷ first) m) rest
    → reading (heap_at (after_all rest (after_all (setup chunk ∷ first) m))) v ≡ reading (heap_at (after_all (setup chunk ∷ first) m)) v
unfolding after_all
held_reads m chunk e first rest v h =
    let start = after (setup chunk) m in
    all_read v rest (after_all first start) (all_hold first start (setup_holds m chunk e)) h
