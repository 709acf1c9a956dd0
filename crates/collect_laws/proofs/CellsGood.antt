-- A cell as before is good again, where its block lies in the room and what it leads to is in use. Document 01, "A heap is sound
-- when": 11's rules, "every slot that an Allocated cell or its elements name is Allocated". Assumes nothing.
use mathlib.Core.Path.{◌≡◌, refl, sym, ap, ◌∙◌}
use mathlib.Core.Bool.{true}
use mathlib.Core.List.{List, [], ◌∷◌}
use Prim.Native.Nat.{ℕ, ◌+◌, ◌-◌, ◌≤◌, ◌<◌}
use native.Mathlib.Omega.{arith}
use lib.Dec.{leb}
use lib.ListN.{length, get_or}
use Rattle.laws.specs.Basics.{both, member}
use Rattle.laws.proofs.Tests.{both_true}
use Rattle.laws.proofs.Pointwise.{get_d_part}
use Rattle.laws.proofs.Members.{first_member, later_member}
use Rattle.rules.specs.Numbers.{most_vector, most_string, most_name}
use Rattle.rules.specs.Utf8.{utf8}
use Rattle.rules.specs.Cells.{undefined, Value, slot, scalar, Cell}
use Rattle.rules.specs.Heap.{Heap, in_use, elements_of}
use Rattle.rules.specs.Collect.{leads_to}
use Rattle.rules.specs.Sound.{value_named, cell_allowed, text_block, vector_block, lies_in, sound_rules}
use Rattle.rules.specs.Calls.{cell_in_use, call_rules}
use Rattle.rules.proofs.Good.{element_at, CellGood}
use Rattle.collect_laws.specs.Kept.{AsBefore, same_scalar, same_pair, symbol_moved, string_moved, vector_moved}
use Rattle.collect_laws.proofs.Leading.{element_among}

module _ (h k : Heap) where
  same_allowed : {c d : Cell} → AsBefore h k c d → cell_allowed k d ≡ cell_allowed h c
  unfolding cell_allowed
  same_allowed (same_scalar x) = refl
  same_allowed (same_pair a d) = refl
  same_allowed (symbol_moved b c n t) = λ i. both (leb (n i) most_name) (utf8 (t i))
  same_allowed (string_moved b c n t) = λ i. both (leb (n i) most_string) (utf8 (t i))
  same_allowed (vector_moved b c n t) = λ i. leb (n i) most_vector

  still_linked : {c d : Cell} → AsBefore h k c d → ((t : ℕ) → member t (leads_to h c) ≡ true → in_use k t ≡ true) → cell_in_use k d ≡ true
  unfolding leads_to call_rules
  still_linked (same_scalar x) p = refl
  still_linked (same_pair a d) p =
      both_true (p a (first_member a (d ∷ []))) (p d (later_member d a (d ∷ []) (first_member d [])))
  still_linked (symbol_moved b c n t) p = refl
  still_linked (string_moved b c n t) p = refl
  still_linked (vector_moved b c n t) p = refl

  slot_named : (v : Value) → ((t : ℕ) → v ≡ slot t → in_use k t ≡ true) → value_named k v ≡ true
  unfolding sound_rules
  slot_named (slot s) p = p s refl
  slot_named (scalar x) p = refl

  still_held : {c d : Cell} → AsBefore h k c d → ((t : ℕ) → member t (leads_to h c) ≡ true → in_use k t ≡ true) → (j : ℕ) → (vector_block d).place ≤ j → j < (vector_block d).place + (vector_block d).size → value_named k (element_at k j) ≡ true
  unfolding leads_to sound_rules
  still_held (same_scalar x) p j low high = absurd (omega arith)
  still_held (same_pair a d) p j low high = absurd (omega arith)
  still_held (symbol_moved b c n t) p j low high = absurd (omega arith)
  still_held (string_moved b c n t) p j low high = absurd (omega arith)
  still_held (vector_moved b c n t) p j low high =
      let i = j - c.place in
      let there : c.place + i ≡ j = omega arith in
      let small : i < c.size = omega arith in
      let is : element_at k j ≡ get_or (elements_of h b) i (scalar undefined) =
      ap (element_at k) (sym there)
      ∙ sym (get_d_part k.elements c.place c.size i (scalar undefined) small)
      ∙ ap (λ (vs : List Value). get_or vs i (scalar undefined)) t
      in
      ap (value_named k) is
      ∙ slot_named (get_or (elements_of h b) i (scalar undefined)) (λ s e. p s (element_among (elements_of h b) i s e))

  pub as_before_good : {c d : Cell} → AsBefore h k c d → CellGood h c → ((t : ℕ) → member t (leads_to h c) ≡ true → in_use k t ≡ true) → lies_in (length k.bytes) (text_block d) ≡ true → lies_in (length k.elements) (vector_block d) ≡ true → CellGood k d
  as_before_good a g p texts vectors =
      record {
        allowed = same_allowed a ∙ g.allowed;
        linked = still_linked a p;
        held = still_held a p;
        text_in = texts;
        vector_in = vectors;
      }
