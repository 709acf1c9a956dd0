-- The two stores leave sound lists, and refused they leave them as they were. Document 01: "each accepted call keeps it so",
-- "A refusal answers its number only, and leaves heap and output as they stood". Assumes nothing.
use mathlib.Core.Path.{◌≡◌, refl, sym, ap, ◌∙◌, subst}
use mathlib.Core.Bool.{Bool, true, false, not}
use mathlib.Core.List.{[], ◌∷◌}
use mathlib.Core.Option.{Option, none, some}
use Prim.Native.Nat.{ℕ, zero, suc}
use native.Mathlib.Omega.{arith}
use borrow.Author.Tests.{not-true, not-false}
use lib.Dec.{eqb}
use lib.ListN.{length, length-set}
use Rattle.laws.specs.Basics.{choose, both}
use Rattle.laws.proofs.Tests.{true≢false, both_left, both_right}
use Rattle.rules.specs.Refusals.{Refusal, unsound, malformed, bad_char, no_such_slot, wrong_cell, Answer, accepted, refused, ◌⇒◌, unless}
use Rattle.rules.specs.Utf8.{scalar_value}
use Rattle.rules.specs.Cells.{Scalar, Value, slot, scalar, Cell, plain, pair, symbol, string, vector, is_symbol}
use Rattle.rules.specs.Heap.{Heap, capacity, cell_at, in_use, with_cell, with_element}
use Rattle.rules.specs.Layout.{Lent, rooms_of, heap_of, lent_of, header, entry_at, layout_rules, slot_kind}
use Rattle.rules.specs.Sound.{scalar_allowed, value_allowed, value_named, sound, sound_rules}
use Rattle.rules.specs.Calls.{Stored, stored, given_bool, given_char, given_scalar, of_answer, given_value, pair_kind, given_cell, value_in_use, cell_in_use, cell_store, element_place, store_element, element_store, call_rules}
use Rattle.rules.proofs.LentLaws.{heap_lent}
use Rattle.rules.proofs.SoundLaws.{clauses, sound_fits, Numbered, numbered}
use Rattle.rules.proofs.Good.{Good}
use Rattle.rules.proofs.Keeping.{Unlisted, with_cell_capacity, with_cell_good, with_element_good}
use Rattle.rules.proofs.PutCells.{CellFits, plain_fits, pair_fits}
use Rattle.rules.proofs.GoodSound.{passed, unless_keeps, sound_good, good_fits, good_sound}

-- ---- what a caller gives

-- what is accepted keeps a test
pub data KeptBy {A : Type 0} (f : A → Bool) : Answer A → Type 0 where
  keeps : (a : A) → f a ≡ true → KeptBy f (accepted a)
  stops : (r : Refusal) → KeptBy f (refused r)

char_kept : (n : ℕ) → KeptBy scalar_allowed (given_char n)
unfolding call_rules sound_rules
char_kept n = by (scalar_value n) refl
  where
    by : (b : Bool) → scalar_value n ≡ b → KeptBy scalar_allowed (choose b (accepted (Scalar.char n)) (refused (malformed bad_char 0)))
    by true e = keeps (Scalar.char n) e
    by false e = stops _

bool_kept : (n : ℕ) → KeptBy scalar_allowed (given_bool n)
unfolding call_rules sound_rules
bool_kept zero = keeps (Scalar.bool false) refl
bool_kept (suc zero) = keeps (Scalar.bool true) refl
bool_kept (suc (suc n)) = stops _

pub scalar_kept : (kind a : ℕ) → KeptBy scalar_allowed (given_scalar kind a)
unfolding call_rules sound_rules
scalar_kept zero a = keeps Scalar.undefined refl
scalar_kept (suc zero) a = keeps Scalar.nil refl
scalar_kept (suc (suc zero)) a = keeps Scalar.eof refl
scalar_kept (suc (suc (suc zero))) a = keeps Scalar.void refl
scalar_kept (suc (suc (suc (suc zero)))) a = bool_kept a
scalar_kept (suc (suc (suc (suc (suc zero))))) a = char_kept a
scalar_kept (suc (suc (suc (suc (suc (suc zero)))))) a = keeps (Scalar.number a) refl
scalar_kept (suc (suc (suc (suc (suc (suc (suc k))))))) a = stops _

value_of : {x : Answer Scalar} → KeptBy scalar_allowed x → KeptBy value_allowed (of_answer x (λ s. accepted (scalar s)) (λ r. refused r))
unfolding call_rules sound_rules
value_of (keeps s e) = keeps (scalar s) e
value_of (stops r) = stops r

pub value_kept : (kind a : ℕ) → KeptBy value_allowed (given_value kind a)
unfolding call_rules sound_rules
value_kept kind a = by (eqb kind slot_kind)
  where
    by : (b : Bool) → KeptBy value_allowed (elim b [ true ↦ accepted (slot a) | false ↦ of_answer (given_scalar kind a) (λ s. accepted (scalar s)) (λ r. refused r) ])
    by true = keeps (slot a) refl
    by false = value_of (scalar_kept kind a)

-- "Cell store: a scalar or a pair of used slots"
unfoldable pub storable : Cell → Bool
unfolding sound_rules
storable (plain s) = scalar_allowed s
storable (pair a d) = true
storable (symbol b) = false
storable (string b) = false
storable (vector b) = false

cell_of : {x : Answer Scalar} → KeptBy scalar_allowed x → KeptBy storable (of_answer x (λ s. accepted (plain s)) (λ r. refused r))
unfolding call_rules storable
cell_of (keeps s e) = keeps (plain s) e
cell_of (stops r) = stops r

pub cell_kept : (kind a b : ℕ) → KeptBy storable (given_cell kind a b)
unfolding call_rules storable
cell_kept kind a b = by (eqb kind pair_kind)
  where
    by : (t : Bool) → KeptBy storable (elim t [ true ↦ accepted (pair a b) | false ↦ of_answer (given_scalar kind a) (λ s. accepted (plain s)) (λ r. refused r) ])
    by true = keeps (pair a b) refl
    by false = cell_of (scalar_kept kind a)

storable_fits : (h : Heap) (c : Cell) → storable c ≡ true → cell_in_use h c ≡ true → CellFits h c
unfolding call_rules storable
storable_fits h (plain s) e u = plain_fits h s e
storable_fits h (pair a d) e u = pair_fits h a d (both_left (in_use h a) _ u) (both_right (in_use h a) _ u)
storable_fits h (symbol b) e u = absurd (true≢false (sym e))
storable_fits h (string b) e u = absurd (true≢false (sym e))
storable_fits h (vector b) e u = absurd (true≢false (sym e))

pub named_value : (h : Heap) (v : Value) → value_in_use h v ≡ true → value_named h v ≡ true
unfolding call_rules sound_rules
named_value h (slot s) e = e
named_value h (scalar s) e = refl

-- ---- the stores

-- refused, the lists are as they were; accepted, they are sound and hold the heap that is written there
pub data StoreLeft (l : Lent) (x : Stored) : Type 0 where
  accepts : (h : Heap) → x.answer ≡ accepted tt → x.lent ≡ lent_of (rooms_of l) h → heap_of x.lent ≡ h → sound x.lent ≡ true → StoreLeft l x
  refuses : (r : Refusal) → x.answer ≡ refused r → x.lent ≡ l → StoreLeft l x

pub store_sound : (l : Lent) (x : Stored) → sound l ≡ true → StoreLeft l x → sound x.lent ≡ true
store_sound l x s (accepts h a e k z) = z
store_sound l x s (refuses r a e) = ap sound e ∙ s

module _ (l : Lent) (s : sound l ≡ true) where
  -- a good heap of the same sizes, written into the same rooms
  accepted_left : (h : Heap) → Good h → h.chunk ≡ (heap_of l).chunk → capacity h ≡ capacity (heap_of l) → length h.bytes ≡ length (heap_of l).bytes → length h.elements ≡ length (heap_of l).elements → StoreLeft l (stored (accepted tt) (lent_of (rooms_of l) h))
  unfolding layout_rules
  accepted_left h g c k b e =
      let f = sound_fits l (clauses l s) in
      let n = numbered (header l 0) l (clauses l s).numbers in
      let fits = good_fits (rooms_of l) h g (omega (arith, f.slots)) (omega (arith, f.bytes)) (omega (arith, f.elements)) in
      accepts h refl refl (heap_lent (rooms_of l) h fits)
      (good_sound (rooms_of l) h g (subst (λ (x : ℕ). Numbered (rooms_of l) x) (sym c) n) (omega (arith, f.slots)) (omega (arith, f.bytes))
      (omega (arith, f.elements)))

  no_symbol : (i : ℕ) → is_symbol (cell_at (heap_of l) i) ≡ false → Unlisted (heap_of l) i
  unfolding sound_rules
  no_symbol i other k m e =
      let h = heap_of l in
      let g = sound_good l s in
      true≢false
      (sym (both_left (is_symbol (cell_at h (entry_at h k).slot)) _ (both_right (in_use h (entry_at h k).slot) _ (g.entries k m)))
      ∙ ap (λ (x : ℕ). is_symbol (cell_at h x)) e ∙ other)

  cell_left : (i : ℕ) (c : Cell) → storable c ≡ true → StoreLeft l
      (unless ((not (both (in_use (heap_of l) i) (cell_in_use (heap_of l) c)) ⇒ no_such_slot) ∷ (is_symbol (cell_at (heap_of l) i) ⇒ wrong_cell) ∷ [])
      (stored (accepted tt) (lent_of (rooms_of l) (with_cell (heap_of l) i c)))
      (λ r. stored (refused r) l))
  unfolding passed
  cell_left i c ok =
      let h = heap_of l in
      unless_keeps (StoreLeft l) _ _ _
      (λ t.
      let uses = not-false _ (not-true _ (both_left (not (not (both (in_use h i) (cell_in_use h c)))) _ t)) in
      let other = not-true _ (both_left (not (is_symbol (cell_at h i))) _ (both_right (not (not (both (in_use h i) (cell_in_use h c)))) _ t)) in
      let f = storable_fits h c ok (both_right (in_use h i) _ uses) in
      accepted_left (with_cell h i c)
      (with_cell_good h i c (sound_good l s) (both_left (in_use h i) _ uses) (no_symbol i other) f.good f.texts f.vectors) refl
      (with_cell_capacity h i c)
      refl
      refl)
      (λ r. refuses r refl refl)

  element_left : (i k : ℕ) (v : Value) → value_allowed v ≡ true → value_in_use (heap_of l) v ≡ true → StoreLeft l (store_element l (heap_of l) i k v)
  unfolding store_element
  element_left i k v ok u = by (element_place (cell_at (heap_of l) i) k)
    where
      by : (o : Option ℕ) → StoreLeft l (elim o [ none ↦ stored (refused wrong_cell) l | some p ↦ stored (accepted tt) (lent_of (rooms_of l) (with_element (heap_of l) p v)) ])
      by none = refuses wrong_cell refl refl
      by (some p) =
          accepted_left (with_element (heap_of l) p v)
          (with_element_good (heap_of l) p v (sound_good l s) ok (named_value (heap_of l) v u)) refl refl refl
          (length-set (heap_of l).elements p v)

sound_tested : (l : Lent) → passed ((not (sound l) ⇒ unsound) ∷ []) ≡ true → sound l ≡ true
unfolding passed
sound_tested l t = not-false (sound l) (not-true (not (sound l)) (both_left (not (not (sound l))) _ t))

pub cell_store_left : (l : Lent) (i kind a b : ℕ) → StoreLeft l (cell_store l i kind a b)
unfolding cell_store
cell_store_left l i kind a b =
    unless_keeps (StoreLeft l) ((not (sound l) ⇒ unsound) ∷ []) _ _ (λ t. by (sound_tested l t) (cell_kept kind a b)) (λ r. refuses r refl refl)
  where
    by : sound l ≡ true → {x : Answer Cell} → KeptBy storable x → StoreLeft l
        (of_answer x
        (λ c.
        unless ((not (both (in_use (heap_of l) i) (cell_in_use (heap_of l) c)) ⇒ no_such_slot) ∷ (is_symbol (cell_at (heap_of l) i) ⇒ wrong_cell) ∷ [])
        (stored (accepted tt) (lent_of (rooms_of l) (with_cell (heap_of l) i c)))
        (λ r. stored (refused r) l))
        (λ r. stored (refused r) l))
    by s (keeps c ok) = cell_left l s i c ok
    by s (stops r) = refuses r refl refl

pub cell_store_keeps_sound : (l : Lent) (i kind a b : ℕ) → sound l ≡ true → sound (cell_store l i kind a b).lent ≡ true
cell_store_keeps_sound l i kind a b s = store_sound l (cell_store l i kind a b) s (cell_store_left l i kind a b)

pub element_store_left : (l : Lent) (i k kind a : ℕ) → StoreLeft l (element_store l i k kind a)
unfolding element_store passed
element_store_left l i k kind a =
    unless_keeps (StoreLeft l) ((not (sound l) ⇒ unsound) ∷ []) _ _ (λ t. by (sound_tested l t) (value_kept kind a)) (λ r. refuses r refl refl)
  where
    by : sound l ≡ true → {x : Answer Value} → KeptBy value_allowed x → StoreLeft l
        (of_answer x
        (λ v.
        unless ((not (both (in_use (heap_of l) i) (value_in_use (heap_of l) v)) ⇒ no_such_slot) ∷ [])
        (store_element l (heap_of l) i k v)
        (λ r. stored (refused r) l))
        (λ r. stored (refused r) l))
    by s (keeps v ok) =
        let h = heap_of l in
        unless_keeps (StoreLeft l) ((not (both (in_use h i) (value_in_use h v)) ⇒ no_such_slot) ∷ []) _ _
        (λ t.
        element_left l s i k v ok
        (both_right (in_use h i) _ (not-false _ (not-true _ (both_left (not (not (both (in_use h i) (value_in_use h v)))) _ t)))))
        (λ r. refuses r refl refl)
    by s (stops r) = refuses r refl refl

pub element_store_keeps_sound : (l : Lent) (i k kind a : ℕ) → sound l ≡ true → sound (element_store l i k kind a).lent ≡ true
element_store_keeps_sound l i k kind a s = store_sound l (element_store l i k kind a) s (element_store_left l i k kind a)
