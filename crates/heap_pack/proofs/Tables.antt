-- Packing by a table: it has, at the place where a block came from, one more than the place that it went to; 0 for none. Document
-- 01: "A collection keeps each block that a surviving slot shows, once, packed by lowest such slot; sharing stays." Assumes
-- nothing.
use mathlib.Core.Path.{◌≡◌, refl, sym, ap, ◌∙◌, subst}
use mathlib.Core.Bool.{Bool, true}
use mathlib.Core.List.{List, ◌++◌}
use mathlib.Core.Option.{Option, none, some}
use Prim.Native.Nat.{ℕ, suc, ◌+◌, ◌-◌, ◌≤◌, ◌<◌}
use native.Mathlib.Omega.{arith}
use native.Mathlib.Numerals.{add-one}
use native.Mathlib.Decide.{ℕ_discrete}
use borrow.Author.Tests.{eq-eqb, ne_eqb}
use lib.ListN.{length, get_or, set, length-append}
use lib.Seq.{get_or-set_same, get_or-set_other}
use Rattle.laws.specs.Basics.{choose}
use Rattle.rules.specs.Cells.{Block}
use Rattle.rules.specs.Heap.{part_of}
use Rattle.rules.specs.Collect.{Packing, place_of}
use Rattle.rules.proofs.Good.{apart}
use Rattle.collect_laws.proofs.Packings.{move, unlike_blocks, place_none, place_new, place_other}
use Rattle.collect_laws.proofs.Packings as packing
use Rattle.heap_pack.specs.Moves.{new_or}

module _ {A : Type 0} (old : List A) (shows : ℕ → Block) (apart_all : (s t : ℕ) → apart (shows s) (shows t) ≡ true) (inside : (s : ℕ) → (shows s).place + (shows s).size ≤ length old) where
  abbrev packed : ℕ → Packing A
  packed s = packing.packed old shows apart_all inside s

  abbrev with_new : ℕ → Packing A → Packing A
  with_new s p = packing.with_new old shows apart_all inside s p

  abbrev pub entry : Option ℕ → ℕ
  entry o = elim o [ none ↦ 0 | some k ↦ suc k ]

  unfoldable pub Tabled : Packing A → List ℕ → Type 0
  Tabled p table = (t : ℕ) → 0 < (shows t).size → get_or table (shows t).place 0 ≡ entry (place_of (shows t) p.moved)

  pub tabled_new : (s : ℕ) (p : Packing A) (table : List ℕ) → 0 < (shows s).size → (shows s).place < length table → place_of (shows s) p.moved ≡ none → Tabled p table → Tabled (with_new s p) (set table (shows s).place (suc (length p.room)))
  unfolding Tabled
  tabled_new s p table h l e g t q = by (ℕ_discrete (shows t).place (shows s).place)
    where
      k : ℕ
      k = length p.room

      by : Dec ((shows t).place ≡ (shows s).place) → get_or (set table (shows s).place (suc k)) (shows t).place 0 ≡ entry (place_of (shows t) (with_new s p).moved)
      by (yes z) =
          ap (λ (n : ℕ). get_or (set table (shows s).place (suc k)) n 0) z
          ∙ get_or-set_same table (shows s).place (suc k) 0 l
          ∙ sym (ap (λ (b : Block). entry (place_of b (with_new s p).moved)) (sym (packing.one_block old shows apart_all inside s t h q z)) ∙ ap entry (place_new (shows s) p.moved k e))
      by (no d) =
          get_or-set_other table (shows s).place (shows t).place (suc k) 0 d
          ∙ g t q
          ∙ ap entry (sym (place_other (shows t) p.moved (move (shows s) k) (unlike_blocks (shows s) (shows t) (λ z. d (sym (ap (λ (b : Block). b.place) z))))))

  -- ---- one slot more

  -- what a turn does to the room in use, the table and the place that it answers
  pub record Stepped (s at : ℕ) (table : List ℕ) (to end : ℕ) (table' : List ℕ) : Type 0 where
    pub room : (packed (suc s)).room ≡ new_or table (shows s).place ((packed s).room ++ part_of old (shows s)) (packed s).room
    pub long : end ≡ length (packed (suc s)).room
    pub listed : Tabled (packed (suc s)) table'
    pub goes : place_of (shows s) (packed (suc s)).moved ≡ some to

  entry_new : (table : List ℕ) (place : ℕ) {B : Type 0} (x y : B) → get_or table place 0 ≡ 0 → new_or table place x y ≡ x
  entry_new table place x y e = ap (λ (b : Bool). choose b x y) (eq-eqb (get_or table place 0) 0 e)

  entry_known : (table : List ℕ) (place : ℕ) {B : Type 0} (x y : B) (k : ℕ) → get_or table place 0 ≡ suc k → new_or table place x y ≡ y
  entry_known table place x y k e = ap (λ (b : Bool). choose b x y) (ne_eqb (get_or table place 0) 0 (λ z. omega (arith, e, z)))

  pub step : (s at : ℕ) (table : List ℕ) (to end : ℕ) (table' : List ℕ) → at ≡ length (packed s).room → Tabled (packed s) table → 0 < (shows s).size → (shows s).place < length table → to ≡ new_or table (shows s).place at (get_or table (shows s).place 0 - 1) → end ≡ new_or table (shows s).place (at + (shows s).size) at → table' ≡ new_or table (shows s).place (set table (shows s).place (at + 1)) table → Stepped s at table to end table'
  unfolding packing.packed Tabled
  step s at table to end table' long listed h l t n w = by (place_of (shows s) (packed s).moved) refl
    where
      suc_less : (k : ℕ) → suc k - 1 ≡ k
      suc_less k = omega arith

      by : (o : Option ℕ) → place_of (shows s) (packed s).moved ≡ o → Stepped s at table to end table'
      by none e =
          let z : get_or table (shows s).place 0 ≡ 0 = listed s h ∙ ap entry e in
          let p = packing.new_moves old shows apart_all inside s (packed s) h e in
          record {
            room = ap (λ (x : Packing A). x.room) p ∙ sym (entry_new table (shows s).place _ _ z);
            long =
                n ∙ entry_new table (shows s).place _ _ z
                ∙ omega (arith, long, length-append (packed s).room (part_of old (shows s)), packing.part_size old shows apart_all inside s, ap (λ (x : Packing A). length x.room) p);
            listed =
                subst (λ (x : Packing A). Tabled x table') (sym p)
                (subst (Tabled (with_new s (packed s))) (sym (w ∙ entry_new table (shows s).place _ _ z ∙ ap (set table (shows s).place) (add-one at ∙ ap suc long)))
                (tabled_new s (packed s) table h l e listed));
            goes = ap (λ (x : Packing A). place_of (shows s) x.moved) p ∙ place_new (shows s) (packed s).moved (length (packed s).room) e ∙ ap some (sym (t ∙ entry_new table (shows s).place _ _ z ∙ long));
          }
      by (some k) e =
          let z : get_or table (shows s).place 0 ≡ suc k = listed s h ∙ ap entry e in
          let p = packing.known_stays old shows apart_all inside s (packed s) k h e in
          record {
            room = ap (λ (x : Packing A). x.room) p ∙ sym (entry_known table (shows s).place _ _ k z);
            long = n ∙ entry_known table (shows s).place _ _ k z ∙ long ∙ ap (λ (x : Packing A). length x.room) (sym p);
            listed = subst (λ (x : Packing A). Tabled x table') (sym p) (subst (Tabled (packed s)) (sym (w ∙ entry_known table (shows s).place _ _ k z)) listed);
            goes =
                ap (λ (x : Packing A). place_of (shows s) x.moved) p ∙ e
                ∙ ap some (sym (t ∙ entry_known table (shows s).place _ _ k z ∙ ap (λ (m : ℕ). m - 1) z ∙ suc_less k));
          }

  -- a new block fits: the table has nothing at its place
  pub table_fits : (s : ℕ) (table : List ℕ) → Tabled (packed s) table → 0 < (shows s).size → get_or table (shows s).place 0 ≡ 0 → length (packed s).room + (shows s).size ≤ length old
  unfolding Tabled
  table_fits s table listed h z = by (place_of (shows s) (packed s).moved) refl
    where
      by : (o : Option ℕ) → place_of (shows s) (packed s).moved ≡ o → length (packed s).room + (shows s).size ≤ length old
      by none e = packing.fits old shows apart_all inside s h e
      by (some k) e = absurd (omega (arith, z, listed s h, ap entry e))

  -- at first nothing is moved
  pub tabled_none : (table : List ℕ) → ((k : ℕ) → get_or table k 0 ≡ 0) → Tabled (packed 0) table
  unfolding packing.packed Tabled
  tabled_none table clear t h = clear (shows t).place ∙ ap entry (sym (place_none (shows t)))
