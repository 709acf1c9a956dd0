-- 16 and 17 from what was told: the tests of the code are the rules' tests of what the put would come to. Assumes nothing.
use mathlib.Core.Path.{◌≡◌, refl, sym, ap, ◌∙◌}
use mathlib.Core.Bool.{Bool, true, false}
use mathlib.Core.List.{List, [], ◌∷◌}
use mathlib.Core.Option.{Option, none, some}
use mathlib.Core.Logic.{◌⊎◌, inl, inr}
use Prim.Native.Nat.{ℕ, ◌+◌, ◌-◌, ◌≤◌, ◌<◌}
use native.Mathlib.Omega.{arith}
use borrow.Author.Tests.{lt-ltb, le-ltb}
use lib.Dec.{ltb}
use lib.ListN.{length}
use Rattle.laws.specs.Basics.{every}
use Rattle.laws.proofs.Tests.{both_left}
use Rattle.rules.specs.Refusals.{Refusal, no_slots, no_room, ◌⇒◌, unless, refusals}
use Rattle.rules.specs.Datum.{Datum, nodes, node_within, datum_fits, early_reference}
use Rattle.rules.specs.Heap.{Heap, Entry, capacity, in_use, found, fitting, most_growths}
use Rattle.rules.specs.Layout.{entry_at, words_of, filled, layout_rules}
use Rattle.rules.specs.Sound.{sound_rules}
use Rattle.rules.specs.Put.{put_datum, slots_short, room_short}
use Rattle.rules.proofs.LentLaws.{words_length}
use Rattle.rules.proofs.Growth.{fitting_least, reached_whole}
use Rattle.rules.proofs.Good.{Good, used_slot, chunk_positive, free_most, table_most}
use Rattle.leaf_free.proofs.Written.{written}
use Rattle.leaf_free.proofs.FreeWords.{chunk_word, capacity_word, count_word}
use Rattle.leaf_free.specs.FreeList.{capacity_of, count_of}
use Rattle.leaf_symbols.specs.Table.{bytes_used, slot_of}
use Rattle.leaf_symbols.proofs.TableLaws.{bytes_word, TableFits, tabled, bytes_within, found_is}
use Rattle.heap_needs.specs.declared.Needed as code
use Rattle.refusals.specs.declared.Refusal.TheVariants.{NoSlots, NoRoom}
use Rattle.refusals.specs.Told.{refusal_of}
use Rattle.std.specs.Prelude.{Ok, Err}
use Rattle.heap_needs.specs.Needs.{Needs, no_needs, in_table, need, needs_of, needs_rules}
use Rattle.heap_needs.specs.Pass.{known_in, Lent, needed, pass_rules}
use Rattle.heap_needs.specs.Lacks.{lent_slots, elements_used, most_slots, first_short, short_of, Measured}
use Rattle.heap_needs.proofs.Taking.{Needed, put_needs, slots_told, bytes_told, elements_told}

-- ---- the code's answers

module _ (ws : List ℕ) (n : code.Needed) (bytes elements : ℕ) where
  abbrev slots_test : Bool
  slots_test = ltb (count_of ws + (most_slots ws - capacity_of ws)) n.slots

  abbrev bytes_test : Bool
  bytes_test = ltb bytes (bytes_used ws + n.bytes)

  abbrev elements_test : Bool
  elements_test = ltb elements (elements_used ws + n.elements)

  short_by : (a b c : Bool) → slots_test ≡ a → bytes_test ≡ b → elements_test ≡ c → first_short a b c ≡ short_of ws n bytes elements
  unfolding short_of
  short_by a b c p q r = λ i. first_short (sym p i) (sym q i) (sym r i)

  pub short_slots : count_of ws + (most_slots ws - capacity_of ws) < n.slots → Err NoSlots ≡ short_of ws n bytes elements
  short_slots l = short_by true bytes_test elements_test (lt-ltb _ _ l) refl refl

  module _ (m : Measured ws bytes elements) (enough : n.slots ≤ count_of ws + (most_slots ws - capacity_of ws)) where
    pub short_room : (bytes - bytes_used ws < n.bytes) ⊎ ((n.bytes ≤ bytes - bytes_used ws) × (elements - elements_used ws < n.elements)) → Err NoRoom ≡ short_of ws n bytes elements
    short_room (inl l) =
        short_by false true elements_test (le-ltb _ _ enough) (lt-ltb bytes (bytes_used ws + n.bytes) (omega (arith, m.texts))) refl
    short_room (inr (k, l)) =
        short_by false false true (le-ltb _ _ enough) (le-ltb bytes (bytes_used ws + n.bytes) (omega (arith, m.texts)))
        (lt-ltb elements (elements_used ws + n.elements) (omega (arith, m.room)))

    pub short_none : n.bytes ≤ bytes - bytes_used ws → n.elements ≤ elements - elements_used ws → Ok tt ≡ short_of ws n bytes elements
    short_none k l =
        short_by false false false (le-ltb _ _ enough) (le-ltb bytes (bytes_used ws + n.bytes) (omega (arith, m.texts)))
        (le-ltb elements (elements_used ws + n.elements) (omega (arith, m.room)))

-- ---- the words of a heap

module _ (n : ℕ) (h : Heap) where
  pub slots_lent : lent_slots (words_of n h) ≡ n
  slots_lent = omega (arith, words_length n h)

  pub elements_word : elements_used (words_of n h) ≡ length h.elements
  unfolding layout_rules
  elements_word = (written n h).heads 5 (omega arith)

  most_word : most_slots (words_of n h) ≡ fitting most_growths h.chunk n (capacity h)
  most_word = λ i. fitting most_growths (chunk_word n h i) (slots_lent i) (capacity_word n h i)

  -- the numbers of a good heap's words
  pub measured_good : (bytes elements : ℕ) → Good h → h.chunk ≤ 4096 → n ≤ 4096 → capacity h ≤ n → length h.bytes ≤ bytes → length h.elements ≤ elements → Measured (words_of n h) bytes elements
  measured_good bytes elements g small most room texts elems =
      record {
        header = omega (arith, words_length n h);
        chunk_positive = omega (arith, chunk_word n h, g.chunk_least);
        chunk_small = omega (arith, chunk_word n h);
        slots_small = omega (arith, slots_lent);
        capacity_small = omega (arith, slots_lent, capacity_word n h);
        rises =
            omega (
              arith,
              most_word,
              capacity_word n h,
              fitting_least most_growths h.chunk n (capacity h) (chunk_positive h g)
                  (reached_whole h.chunk (capacity h) (chunk_positive h g) g.growth),
            );
        free_small = omega (arith, count_word n h, free_most h g);
        texts = omega (arith, bytes_word n h);
        room = omega (arith, elements_word);
      }

  pub table_good : Good h → capacity h ≤ n → TableFits n h
  unfolding sound_rules
  table_good g room =
      record {
        rows = omega (arith, table_most h g);
        slots = λ i l. omega (arith, (used_slot h (entry_at h i).slot (both_left (in_use h (entry_at h i).slot) _ (g.entries i l))).below);
      }

  -- a good heap's table can be searched
  pub lent_good : (room : ℕ) → Good h → capacity h ≤ n → length h.bytes ≤ room → Lent (words_of n h) (filled room h.bytes)
  lent_good room g small texts =
      record { table = tabled n h (table_good g small); texts = bytes_within n room h texts }

  -- what the words know is what the table knows
  pub known_is : (room : ℕ) → TableFits n h → known_in (words_of n h) (filled room h.bytes) ≡ in_table h
  unfolding pass_rules needs_rules
  known_is room f =
      λ i text scope.
      (ap (λ (o : Option ℕ). elim o as (λ o. Bool) [ none ↦ false | some s ↦ true ]) (found_is n room h f text scope)
      ∙ by (found h text scope)) i
    where
      by : (o : Option Entry) → ◌≡◌ {A = Bool} (elim (slot_of o) as (λ o. Bool) [ none ↦ false | some s ↦ true ]) (elim o as (λ o. Bool) [ none ↦ false | some e ↦ true ])
      by none = refl
      by (some e) = refl

-- ---- 16 and 17

-- the code's answer is the rules' tests of what the put comes to
pub short_told : (n bytes elements : ℕ) (h h' : Heap) (t : Needs) → Needed h h' t → short_of (words_of n h) (needed t) bytes elements ≡ first_short (slots_short n h h') (room_short bytes h'.bytes) (room_short elements h'.elements)
unfolding short_of
short_told n bytes elements h h' t k =
    λ i.
    first_short
    (((λ j. ltb (count_word n h j + (most_word n h j - capacity_word n h j)) t.slots) ∙ sym (slots_told n h h' t k)) i)
    (((λ j. ltb bytes (bytes_word n h j + t.bytes)) ∙ sym (bytes_told bytes h h' t k)) i)
    (((λ j. ltb elements (elements_word n h j + t.elements)) ∙ sym (elements_told elements h h' t k)) i)

-- the same for a datum that is put, with the needs as the loop tells them
pub put_short : (n room bytes elements : ℕ) (h : Heap) (d : Datum) → Good h → capacity h ≤ n → datum_fits d ≡ true → every node_within (nodes d) ≡ true → early_reference d ≡ false
    → short_of (words_of n h) (needed (need (known_in (words_of n h) (filled room h.bytes)) true d no_needs)) bytes elements
    ≡ first_short (slots_short n h (put_datum d h).making.heap) (room_short bytes (put_datum d h).making.heap.bytes) (room_short elements (put_datum d h).making.heap.elements)
unfolding needs_rules
put_short n room bytes elements h d g small f w e =
    ap (λ (known : List ℕ → ℕ → Bool). short_of (words_of n h) (needed (need known true d no_needs)) bytes elements)
    (known_is n h room (table_good n h g small))
    ∙ short_told n bytes elements h (put_datum d h).making.heap (needs_of h d) (put_needs d h g f w e)

-- the rules' tests in their order, by the code's answer
pub unless_short : {A : Type 0} (a b c : Bool) (x : A) (refuse : Refusal → A) → unless ((a ⇒ no_slots) ∷ (b ⇒ no_room) ∷ (c ⇒ no_room) ∷ []) x refuse ≡ elim (first_short a b c) as (λ o. A) [ Ok u ↦ x | Err r ↦ refuse (refusal_of r) ]
unfolding refusals
unless_short true b c x refuse = refl
unless_short false true c x refuse = refl
unless_short false false true x refuse = refl
unless_short false false false x refuse = refl
