-- Every public call, as one definition from the lent lists at entry to the answer and the lent lists at exit, refusals in
-- the order of document 01's table (a read looks at 14 before 12, which a slot that is not in use cannot give). A list that a call is
-- lent only to read has no value at exit here: it stays as it is. "A refusal answers its number only, and leaves heap and output as
-- they stood." "On return scratch is all zero, except after 19 or 20, which leave it untouched." Assumes nothing.
use Rattle.std.specs.Prelude.{◌≡◌, Bool, true, false, not, List, [], ◌∷◌, ◌++◌, ℕ, zero, suc, ◌+◌, eqb, ltb, length, drop, get_or}
use Rattle.std.proofs.Math.Option.{Option, none, some}
use Rattle.laws.specs.Basics.{choose, both, every, zeros, basics}
use Rattle.rules.specs.Numbers.{scratch_words}
use Rattle.rules.specs.Refusals.{unknown_kind, bad_bool, bad_char, Refusal, bad_setup, unsound, short_scratch, malformed, over_limit, early_label, no_such_slot, wrong_cell, no_slots, no_room, short_output, Answer, accepted, refused, told, ◌⇒◌, unless, refusals}
use Rattle.rules.specs.Utf8.{scalar_value, utf8_rules}
use Rattle.rules.specs.Cells.{Scalar, undefined, nil, eof, void, bool, char, number, Value, slot, scalar, Block, Cell, plain, pair, symbol, string, vector, is_symbol}
use Rattle.rules.specs.Datum.{Datum, good, bad, parse, encode, within_limits, early_reference, datum_rules}
use Rattle.rules.specs.Heap.{Heap, capacity, cell_at, in_use, text_of, with_cell, with_element, fresh, free_count, used_count, heap_rules}
use Rattle.rules.specs.Map.{map_rules}
use Rattle.rules.specs.Put.{put_datum, slot_in, slots_short, room_short, put_rules}
use Rattle.rules.specs.Read.{reading, read_rules}
use Rattle.rules.specs.Equal.{eqv, Equal, equal_rules}
use Rattle.rules.specs.Collect.{collect, collect_rules}
use Rattle.rules.specs.Layout.{Lent, rooms_of, heap_of, lent_of, slot_kind, layout_rules}
use Rattle.rules.specs.Sound.{setup_numbers, sound, sound_rules}

-- ---- what a call leaves

-- the answer, the heap's lists and the scratch
pub record Left (A : Type 0) : Type 0 where
  pub answer : Answer A
  pub lent : Lent
  pub scratch : List ℕ

abbrev pub left : {A : Type 0} → Answer A → Lent → List ℕ → Left A
left a l t = record { answer = a; lent = l; scratch = t }

unfoldable pub cleared : List ℕ → List ℕ
unfolding basics
cleared scratch = zeros (length scratch)

-- 20, then 19: both leave the scratch untouched
unfoldable pub checked : {A : Type 0} → Lent → List ℕ → (Heap → Left A) → Left A
unfolding refusals sound_rules layout_rules
checked l scratch go =
    unless
    ((not (sound l) ⇒ unsound) ∷ (ltb (length scratch) (scratch_words (capacity (heap_of l))) ⇒ short_scratch) ∷ [])
    (go (heap_of l))
    (λ r. left (refused r) l scratch)

-- ---- values given by a caller: a kind's number and its fields; fields that the kind has not are not looked at

unfoldable pub given_bool : ℕ → Answer Scalar
given_bool zero = accepted (bool false)
given_bool (suc zero) = accepted (bool true)
given_bool (suc (suc n)) = refused (malformed bad_bool 0)

unfoldable pub given_char : ℕ → Answer Scalar
unfolding utf8_rules
given_char n = choose (scalar_value n) (accepted (char n)) (refused (malformed bad_char 0))

-- "given scalar malformed": the kinds of a datum's scalars, and their rules
unfoldable pub given_scalar : ℕ → ℕ → Answer Scalar
unfolding given_bool given_char
given_scalar kind a =
    get_or
    ((λ n. accepted undefined)
    ∷ (λ n. accepted nil)
    ∷ (λ n. accepted eof)
    ∷ (λ n. accepted void)
    ∷ given_bool
    ∷ given_char
    ∷ (λ n. accepted (number n))
    ∷ [])
    kind
    (λ n. refused (malformed unknown_kind 0))
    a

unfoldable pub of_answer {ℓ} : {A : Type 0} {B : Type ℓ} → Answer A → (A → B) → (Refusal → B) → B
of_answer (accepted a) go stop = go a
of_answer (refused r) go stop = stop r

unfoldable pub given_value : ℕ → ℕ → Answer Value
unfolding given_scalar of_answer
given_value kind a =
    elim (eqb kind slot_kind)
    [ true ↦ accepted (slot a) | false ↦ of_answer (given_scalar kind a) (λ s. accepted (scalar s)) (λ r. refused r) ]

-- "Cell store: a scalar or a pair of used slots"
abbrev pub pair_kind : ℕ
pair_kind = 9

unfoldable pub given_cell : ℕ → ℕ → ℕ → Answer Cell
unfolding given_scalar of_answer
given_cell kind a b =
    elim (eqb kind pair_kind)
    [ true ↦ accepted (pair a b) | false ↦ of_answer (given_scalar kind a) (λ s. accepted (plain s)) (λ r. refused r) ]

-- the slots that a given value or cell names are in use
unfoldable pub value_in_use : Heap → Value → Bool
unfolding map_rules
value_in_use h (slot s) = in_use h s
value_in_use h (scalar x) = true

unfoldable pub cell_in_use : Heap → Cell → Bool
unfolding map_rules
cell_in_use h (plain s) = true
cell_in_use h (pair a d) = both (in_use h a) (in_use h d)
cell_in_use h (symbol b) = true
cell_in_use h (string b) = true
cell_in_use h (vector b) = true

-- ---- setup: 10 only

pub record SetUp : Type 0 where
  pub answer : Answer (Unit {0})
  pub lent : Lent

unfoldable pub setup : ℕ → Lent → SetUp
unfolding sound_rules layout_rules heap_rules
setup chunk l =
    elim (setup_numbers chunk l) [
      | true ↦ record { answer = accepted tt; lent = lent_of (rooms_of l) (fresh chunk) }
      | false ↦ record { answer = refused bad_setup; lent = l }
    ]

-- ---- put: 20, 19, 11, 12, 13, 16, 17; the answer is the datum's slot

-- a datum that is a tree, with what its put would come to
unfoldable pub put_tree : Lent → List ℕ → Heap → Datum → Left ℕ
unfolding refusals datum_rules put_rules layout_rules cleared
put_tree l scratch h d =
    let p = put_datum d h in
    let after : Heap = p.making.heap in
    unless
    ((not (within_limits d) ⇒ over_limit)
    ∷ (early_reference d ⇒ early_label)
    ∷ (slots_short (rooms_of l).slots h after ⇒ no_slots)
    ∷ (room_short (rooms_of l).bytes after.bytes ⇒ no_room)
    ∷ (room_short (rooms_of l).elements after.elements ⇒ no_room)
    ∷ [])
    (left (accepted (slot_in p)) (lent_of (rooms_of l) after) (cleared scratch))
    (λ r. left (refused r) l (cleared scratch))

unfoldable pub put_call : Lent → List ℕ → List ℕ → Left ℕ
unfolding checked put_tree datum_rules cleared
put_call l scratch datum =
    checked l scratch
    (λ h. elim (parse datum) [ good d ↦ put_tree l scratch h d | bad f n ↦ left (refused (malformed f n)) l (cleared scratch) ])

-- ---- read: 20, 19, 11, 12, 14, 18; the answer is the length written

pub record ReadLeft : Type 0 where
  pub answer : Answer ℕ
  pub scratch : List ℕ
  pub out : List ℕ

unfoldable pub read_value : Heap → List ℕ → List ℕ → Value → ReadLeft
unfolding refusals read_rules datum_rules map_rules cleared value_in_use
read_value h scratch out v =
    let stop : Refusal → ReadLeft = λ r. record { answer = refused r; scratch = cleared scratch; out = out } in
    elim (value_in_use h v) [
      | false ↦ stop no_such_slot
      | true ↦
          elim (reading h v) [
            | none ↦ stop over_limit
            | some d ↦
                unless ((ltb (length out) (length (encode d)) ⇒ short_output) ∷ [])
                (record
                { answer = accepted (length (encode d)); scratch = cleared scratch; out = encode d ++ drop (length (encode d)) out })
                stop
          ]
    ]

unfoldable pub read_call : Lent → List ℕ → List ℕ → ℕ → ℕ → ReadLeft
unfolding refusals sound_rules layout_rules read_value given_value of_answer cleared
read_call l scratch out kind a =
    unless
    ((not (sound l) ⇒ unsound) ∷ (ltb (length scratch) (scratch_words (capacity (heap_of l))) ⇒ short_scratch) ∷ [])
    (of_answer (given_value kind a) (read_value (heap_of l) scratch out)
    (λ r. record { answer = refused r; scratch = cleared scratch; out = out }))
    (λ r. record { answer = refused r; scratch = scratch; out = out })

-- ---- eqv: 20, 11, 14; it needs no scratch

unfoldable pub eqv_call : Lent → ℕ → ℕ → ℕ → ℕ → Answer Bool
unfolding refusals sound_rules layout_rules equal_rules given_value of_answer value_in_use map_rules
eqv_call l kind a kind' a' =
    unless ((not (sound l) ⇒ unsound) ∷ [])
    (of_answer (given_value kind a)
    (λ v.
    of_answer (given_value kind' a')
    (λ w.
    unless ((not (both (value_in_use (heap_of l) v) (value_in_use (heap_of l) w)) ⇒ no_such_slot) ∷ [])
    (accepted (eqv (heap_of l) v w))
    (λ r. refused r))
    (λ r. refused r))
    (λ r. refused r))
    (λ r. refused r)

-- ---- equal: 20, 19, 11, 14

pub record EqualLeft : Type 0 where
  pub answer : Answer Bool
  pub scratch : List ℕ

-- the answer for two values that may be compared is the one that `Equal` says
unfoldable pub EqualValues : Heap → List ℕ → Value → Value → EqualLeft → Type 0
unfolding refusals equal_rules value_in_use map_rules cleared
EqualValues h scratch v w r =
    unless ((not (both (value_in_use h v) (value_in_use h w)) ⇒ no_such_slot) ∷ [])
    ((truth : Bool) × Equal h v w truth × (r ≡ record { answer = accepted truth; scratch = cleared scratch }))
    (λ n. r ≡ record { answer = refused n; scratch = cleared scratch })

unfoldable pub EqualCall : Lent → List ℕ → ℕ → ℕ → ℕ → ℕ → EqualLeft → Type 0
unfolding refusals sound_rules layout_rules given_value of_answer EqualValues cleared
EqualCall l scratch kind a kind' a' r =
    unless
    ((not (sound l) ⇒ unsound) ∷ (ltb (length scratch) (scratch_words (capacity (heap_of l))) ⇒ short_scratch) ∷ [])
    (of_answer (given_value kind a)
    (λ v.
    of_answer (given_value kind' a')
    (λ w. EqualValues (heap_of l) scratch v w r)
    (λ n. r ≡ record { answer = refused n; scratch = cleared scratch }))
    (λ n. r ≡ record { answer = refused n; scratch = cleared scratch }))
    (λ n. r ≡ record { answer = refused n; scratch = scratch })

-- ---- collection: 20, 19, 14 for a root

unfoldable pub collect_call : Lent → List ℕ → List ℕ → Left (Unit {0})
unfolding refusals checked collect_rules layout_rules map_rules cleared basics
collect_call l scratch roots =
    checked l scratch
    (λ h.
    unless ((not (every (in_use h) roots) ⇒ no_such_slot) ∷ [])
    (left (accepted tt) (lent_of (rooms_of l) (collect roots h)) (cleared scratch))
    (λ r. left (refused r) l (cleared scratch)))

-- ---- the two stores: 20, 11, 14, 15

pub record Stored : Type 0 where
  pub answer : Answer (Unit {0})
  pub lent : Lent

abbrev pub stored : Answer (Unit {0}) → Lent → Stored
stored a l = record { answer = a; lent = l }

-- "cell store: the slot holds a symbol"
unfoldable pub cell_store : Lent → ℕ → ℕ → ℕ → ℕ → Stored
unfolding refusals sound_rules layout_rules given_cell of_answer cell_in_use map_rules
cell_store l s kind a b =
    let h = heap_of l in
    unless ((not (sound l) ⇒ unsound) ∷ [])
    (of_answer (given_cell kind a b)
    (λ c.
    unless
    ((not (both (in_use h s) (cell_in_use h c)) ⇒ no_such_slot) ∷ (is_symbol (cell_at h s) ⇒ wrong_cell) ∷ [])
    (stored (accepted tt) (lent_of (rooms_of l) (with_cell h s c)))
    (λ r. stored (refused r) l))
    (λ r. stored (refused r) l))
    (λ r. stored (refused r) l)

-- "element store: not a vector or no such element": the element's place in the arena
unfoldable pub element_place : Cell → ℕ → Option ℕ
element_place (plain s) k = none
element_place (pair a d) k = none
element_place (symbol b) k = none
element_place (string b) k = none
element_place (vector b) k = choose (ltb k b.size) (some (b.place + k)) none

unfoldable pub store_element : Lent → Heap → ℕ → ℕ → Value → Stored
unfolding element_place layout_rules
store_element l h s k v =
    elim (element_place (cell_at h s) k) [
      | none ↦ stored (refused wrong_cell) l
      | some p ↦ stored (accepted tt) (lent_of (rooms_of l) (with_element h p v))
    ]

unfoldable pub element_store : Lent → ℕ → ℕ → ℕ → ℕ → Stored
unfolding refusals sound_rules layout_rules given_value of_answer value_in_use store_element map_rules
element_store l s k kind a =
    let h = heap_of l in
    unless ((not (sound l) ⇒ unsound) ∷ [])
    (of_answer (given_value kind a)
    (λ v.
    unless ((not (both (in_use h s) (value_in_use h v)) ⇒ no_such_slot) ∷ [])
    (store_element l h s k v)
    (λ r. stored (refused r) l))
    (λ r. stored (refused r) l))
    (λ r. stored (refused r) l)

-- ---- text: 20, 14, 15

-- the block of a string or a name
unfoldable pub text_in : Cell → Answer Block
text_in (plain s) = refused wrong_cell
text_in (pair a d) = refused wrong_cell
text_in (symbol b) = accepted b
text_in (string b) = accepted b
text_in (vector b) = refused wrong_cell

unfoldable pub text_call : Lent → ℕ → Answer Block
unfolding refusals sound_rules layout_rules text_in map_rules
text_call l s =
    unless ((not (sound l) ⇒ unsound) ∷ (not (in_use (heap_of l) s) ⇒ no_such_slot) ∷ [])
    (text_in (cell_at (heap_of l) s))
    (λ r. refused r)

-- "A string or name is read as the part of the byte arena that holds it, empty where refused"
unfoldable pub text_part : Lent → ℕ → List ℕ
unfolding text_call of_answer layout_rules
text_part l s = of_answer (text_call l s) (λ b. text_of (heap_of l) b) (λ r. [])

-- "a second call tells 0 or the refusal"
unfoldable pub text_told : Lent → ℕ → ℕ
unfolding text_call refusals
text_told l s = told (text_call l s)

-- ---- the counts: 20

unfoldable pub count_call : (Heap → ℕ) → Lent → Answer ℕ
unfolding refusals sound_rules layout_rules
count_call f l = unless ((not (sound l) ⇒ unsound) ∷ []) (accepted (f (heap_of l))) (λ r. refused r)

unfoldable pub capacity_call : Lent → Answer ℕ
unfolding count_call
capacity_call l = count_call capacity l

unfoldable pub free_call : Lent → Answer ℕ
unfolding count_call
free_call l = count_call free_count l

unfoldable pub used_call : Lent → Answer ℕ
unfolding count_call
used_call l = count_call used_count l

unfoldable pub call_rules : Unit {0}
unfolding cleared checked given_bool given_char given_scalar of_answer given_value given_cell value_in_use cell_in_use setup put_tree
    put_call read_value read_call eqv_call EqualValues EqualCall collect_call cell_store element_place store_element
    element_store text_in text_call text_part text_told count_call capacity_call free_call used_call
call_rules = tt
