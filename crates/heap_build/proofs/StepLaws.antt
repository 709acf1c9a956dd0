-- The drafts a step at a time: what a node leaves, where none is left, and what the scratch tells of a slot. Document 01,
-- "Reading back": "a labelled slot is a definition at first meeting and a reference later." Assumes nothing.
use mathlib.Core.Path.{◌≡◌, refl, sym, ap, ◌∙◌, subst}
use mathlib.Core.Bool.{Bool, true, false}
use mathlib.Core.List.{List, ◌∷◌, ◌++◌}
use mathlib.Core.Option.{Option, none, some}
use Rattle.std.specs.Prelude as code
use Rattle.std.specs.Prelude.{Some, None}
use Prim.Native.Nat.{ℕ, zero, suc, ◌+◌, ◌-◌, ◌*◌, ◌/◌, ◌%◌, ◌≤◌, ◌<◌}
use native.Mathlib.Omega.{arith}
use native.Mathlib.Decide.{ℕ_discrete}
use borrow.Author.Tests.{eq-eqb, ne_eqb}
use lib.Dec.{eqb}
use lib.ListN.{length, get_or, set, length-append}
use lib.Seq.{sets, get_or-set_same, get_or-set_other}
use Rattle.laws.specs.Basics.{choose, member}
use Rattle.laws.proofs.Writing.{sets_append}
use Rattle.laws.proofs.Members.{member_other, first_member}
use Rattle.rules.specs.Cells.{Scalar, Value, slot, scalar, Cell, plain, pair, symbol, string, vector}
use Rattle.rules.specs.Nodes.{Atom, Node, write_node}
use Rattle.rules.specs.Heap.{Heap, cell_at}
use Rattle.rules.specs.Read.{place_in}
use Rattle.leaf_rooms.specs.Rooms.{stored}
use Rattle.leaf_write.specs.declared.Page.{Page}
use Rattle.leaf_write.specs.Pages.{noted, Noted}
use Rattle.heap_walk.specs.Marks.{label_word}
use Rattle.heap_walk.proofs.MarkLaws.{label_none, label_some}
use Rattle.heap_build.specs.Drafts.{Draft, note, and_next, begin, draft_cell, draft_label, draft_slot, draft, draft_rules}
use Rattle.heap_build.specs.Tasks.{Marks, Shows, Made, LeftBy}

-- ---- where no node is left

note_none : (n : Node) (d : Draft) → d.left ≡ 0 → note n d ≡ none
unfolding note
note_none n d e =
    ap (λ (k : ℕ). elim k as (λ k. Option Draft) [ zero ↦ none | suc k ↦ some (record { left = k; begun = d.begun; text = d.text ++ write_node n }) ]) e

note_some : (n : Node) (d : Draft) (k : ℕ) → d.left ≡ suc k → note n d ≡ some (record { left = k; begun = d.begun; text = d.text ++ write_node n })
unfolding note
note_some n d k e =
    ap (λ (k : ℕ). elim k as (λ k. Option Draft) [ zero ↦ none | suc k ↦ some (record { left = k; begun = d.begun; text = d.text ++ write_node n }) ]) e

next_none : (n : Node) (d : Draft) (f : Draft → Option Draft) → d.left ≡ 0 → and_next (note n d) f ≡ none
unfolding and_next
next_none n d f e = ap (λ (o : Option Draft). and_next o f) (note_none n d e)

module _ (one : Value → Draft → Option Draft) (h : Heap) where
  cell_none : (c : Cell) (d : Draft) → d.left ≡ 0 → draft_cell one h c d ≡ none
  unfolding draft_rules
  cell_none (plain x) d e = note_none _ d e
  cell_none (symbol b) d e = note_none _ d e
  cell_none (string b) d e = note_none _ d e
  cell_none (pair a b) d e = next_none _ d _ e
  cell_none (vector b) d e = next_none _ d _ e

  slot_none : (labels : List ℕ) (s : ℕ) (d : Draft) → d.left ≡ 0 → draft_slot one h labels s d ≡ none
  unfolding draft_slot draft_label
  slot_none labels s d e = go (member s labels) (member s d.begun)
    where
      go : (a b : Bool) → ◌≡◌ {A = Option Draft} (elim a [ false ↦ draft_cell one h (cell_at h s) d | true ↦ elim b as (λ m. Option Draft) [ true ↦ note (Node.atom (Atom.ref (place_in labels s))) d | false ↦ and_next (note (Node.def (place_in labels s)) (begin s d)) (draft_cell one h (cell_at h s)) ] ]) none
      go false b = cell_none (cell_at h s) d e
      go true true = note_none _ d e
      go true false = next_none _ (begin s d) _ e

  -- ---- a slot by its label

  pub slot_plain : (labels : List ℕ) (s : ℕ) (d : Draft) → member s labels ≡ false → draft_slot one h labels s d ≡ draft_cell one h (cell_at h s) d
  unfolding draft_slot
  slot_plain labels s d e =
      ap (λ (m : Bool). elim m as (λ m. Option Draft) [ false ↦ draft_cell one h (cell_at h s) d | true ↦ draft_label (draft_cell one h (cell_at h s)) (place_in labels s) s d ]) e

  slot_labelled : (labels : List ℕ) (s : ℕ) (d : Draft) → member s labels ≡ true → draft_slot one h labels s d ≡ draft_label (draft_cell one h (cell_at h s)) (place_in labels s) s d
  unfolding draft_slot
  slot_labelled labels s d e =
      ap (λ (m : Bool). elim m as (λ m. Option Draft) [ false ↦ draft_cell one h (cell_at h s) d | true ↦ draft_label (draft_cell one h (cell_at h s)) (place_in labels s) s d ]) e

  pub slot_again : (labels : List ℕ) (s : ℕ) (d : Draft) → member s labels ≡ true → member s d.begun ≡ true → draft_slot one h labels s d ≡ note (Node.atom (Atom.ref (place_in labels s))) d
  unfolding draft_label
  slot_again labels s d e b =
      slot_labelled labels s d e
      ∙ ap (λ (m : Bool). elim m as (λ m. Option Draft) [ true ↦ note (Node.atom (Atom.ref (place_in labels s))) d | false ↦ and_next (note (Node.def (place_in labels s)) (begin s d)) (draft_cell one h (cell_at h s)) ]) b

  pub slot_first : (labels : List ℕ) (s : ℕ) (d : Draft) → member s labels ≡ true → member s d.begun ≡ false → draft_slot one h labels s d ≡ and_next (note (Node.def (place_in labels s)) (begin s d)) (draft_cell one h (cell_at h s))
  unfolding draft_label
  slot_first labels s d e b =
      slot_labelled labels s d e
      ∙ ap (λ (m : Bool). elim m as (λ m. Option Draft) [ true ↦ note (Node.atom (Atom.ref (place_in labels s))) d | false ↦ and_next (note (Node.def (place_in labels s)) (begin s d)) (draft_cell one h (cell_at h s)) ]) b

-- ---- a depth that the nodes left do not pass is deep enough

pub draft_step : (n : ℕ) (h : Heap) (labels : List ℕ) (s : ℕ) (d : Draft) → d.left ≤ n → draft n h labels (slot s) d ≡ draft_slot (λ v d. draft (n - 1) h labels v d) h labels s d
unfolding draft
draft_step zero h labels s d few = sym (slot_none (λ v d. draft (0 - 1) h labels v d) h labels s d (omega arith))
draft_step (suc n) h labels s d few =
    let e : n ≡ suc n - 1 = omega arith in
    ap (λ (k : ℕ). draft_slot (λ v d. draft k h labels v d) h labels s d) e

pub draft_scalar : (n : ℕ) (h : Heap) (labels : List ℕ) (x : Scalar) (d : Draft) → d.left ≤ n → draft n h labels (scalar x) d ≡ note (Node.atom (Atom.plain x)) d
unfolding draft draft_cell
draft_scalar zero h labels x d few = sym (note_none _ d (omega arith))
draft_scalar (suc n) h labels x d few = refl

-- ---- what a part leaves

module _ (labels start : List ℕ) where
  pub left_as : (bound : ℕ) (o o' : Option Draft) (r : code.Option Page) (marks out : List ℕ) → o ≡ o' → LeftBy labels start bound o r marks out → LeftBy labels start bound o' r marks out
  left_as bound o o' r marks out e l = subst (λ (x : Option Draft). LeftBy labels start bound x r marks out) e l

  pub left_none : (bound : ℕ) (o : Option Draft) (r : code.Option Page) (marks out : List ℕ) → o ≡ none → r ≡ None → LeftBy labels start bound o r marks out
  unfolding LeftBy
  left_none bound o r marks out e none_left =
      left_as bound none o r marks out (sym e) (subst (λ (x : code.Option Page). LeftBy labels start bound none x marks out) (sym none_left) tt)

  pub left_weaker : (b c : ℕ) (o : Option Draft) (r : code.Option Page) (marks out : List ℕ) → b ≤ c → LeftBy labels start b o r marks out → LeftBy labels start c o r marks out
  unfolding LeftBy
  left_weaker b c none None marks out h l = l
  left_weaker b c none (Some p) marks out h l = l
  left_weaker b c (some d) None marks out h l = l
  left_weaker b c (some d) (Some p) marks out h l = record { shows = l.shows; below = omega (arith, l.below) }

  module _ (bound : ℕ) (o : Option Draft) (r : code.Option Page) (marks out : List ℕ) (l : LeftBy labels start bound o r marks out) where
    pub gave_up : r ≡ None → o ≡ none
    unfolding LeftBy
    gave_up e = go o (subst (λ (x : code.Option Page). LeftBy labels start bound o x marks out) e l)
      where
        go : (x : Option Draft) → LeftBy labels start bound x None marks out → x ≡ none
        go none l = refl
        go (some d) l = absurd l

    module _ (p : Page) where
      pub record On : Type 0 where
        pub draft : Draft
        pub is : o ≡ some draft
        pub made : Made labels start bound draft p marks out

      pub went_on : r ≡ Some p → On
      unfolding LeftBy
      went_on e = go o refl (subst (λ (x : code.Option Page). LeftBy labels start bound o x marks out) e l)
        where
          go : (x : Option Draft) → o ≡ x → LeftBy labels start bound x (Some p) marks out → On
          go none q l = absurd l
          go (some d) q l = record { draft = d; is = q; made = l }

  -- a node that was written
  module _ (d : Draft) (p : Page) (marks out : List ℕ) (s : Shows labels start d p marks out) where
    pub at_small : p.at ≤ 16797696
    at_small = omega (arith, s.at_is, s.small)

    module _ (node : Node) (fits : length (write_node node) ≤ 4101) (after : List ℕ) (r : code.Option Page) (n : Noted out (write_node node) p after r) where
      pub noted_left : LeftBy labels start d.left (note node d) r marks after
      unfolding LeftBy noted stored
      noted_left = go d.left refl
        where
          page : (b : Bool) → eqb p.left 0 ≡ b → r ≡ choose b None (Some (record { left = p.left - 1; at = p.at + length (write_node node) }))
          page b e =
              n.page_is
              ∙ ap (λ (b : Bool). choose b None (Some (record { left = p.left - 1; at = p.at + length (write_node node) }))) e

          go : (k : ℕ) → d.left ≡ k → LeftBy labels start d.left (note node d) r marks after
          go zero e =
              left_none d.left (note node d) r marks after (note_none node d e) (page true (eq-eqb p.left 0 (s.left_is ∙ e)))
          go (suc k) e =
              let some_left : eqb p.left 0 ≡ false = ne_eqb p.left 0 (λ q. omega (arith, s.left_is, e)) in
              let wrote : after ≡ sets out p.at (write_node node) =
              n.out_is ∙ ap (λ (b : Bool). choose b out (sets out p.at (write_node node))) some_left
              in
              let place : p.at ≡ 0 + length d.text = omega (arith, s.at_is) in
              let made : LeftBy labels start d.left (some (record { left = k; begun = d.begun; text = d.text ++ write_node node })) (Some (record { left = p.left - 1; at = p.at + length (write_node node) })) marks after =
              record {
                shows =
                    record {
                      left_is = omega (arith, s.left_is, e);
                      at_is = omega (arith, s.at_is, length-append d.text (write_node node));
                      out_is =
                          wrote
                          ∙ (λ i. sets (s.out_is i) (place i) (write_node node))
                          ∙ sets_append start 0 d.text (write_node node);
                      marks_are = s.marks_are;
                      small = omega (arith, length-append d.text (write_node node), fits, s.small, e);
                    };
                below = omega (arith, s.left_is, e);
              }
              in
              left_as d.left (some (record { left = k; begun = d.begun; text = d.text ++ write_node node })) (note node d) r marks after
              (sym (note_some node d k e))
              (subst (λ (x : code.Option Page). LeftBy labels start d.left (some (record { left = k; begun = d.begun; text = d.text ++ write_node node })) x marks after) (sym (page false some_left)) made)

-- ---- what the scratch tells of a slot

module _ (labels begun marks : List ℕ) (m : Marks labels begun marks) (s : ℕ) where
  pub mark_plain : get_or marks s 0 / 4 ≡ 0 → member s labels ≡ false
  mark_plain low = go (member s labels) refl
    where
      go : (b : Bool) → member s labels ≡ b → member s labels ≡ false
      go true e = absurd (omega (arith, m.labels_are s, label_some labels s e))
      go false e = e

  pub mark_labelled : (get_or marks s 0 / 4 ≡ 0 → ⊥) → member s labels ≡ true
  mark_labelled high = go (member s labels) refl
    where
      go : (b : Bool) → member s labels ≡ b → member s labels ≡ true
      go true e = e
      go false e = absurd (high (omega (arith, m.labels_are s, label_none labels s e)))

  pub mark_label : (get_or marks s 0 / 4 ≡ 0 → ⊥) → get_or marks s 0 / 4 - 1 ≡ place_in labels s
  mark_label high = omega (arith, m.labels_are s, label_some labels s (mark_labelled high))

  pub mark_begun : get_or marks s 0 % 4 ≡ 2 → member s begun ≡ true
  mark_begun e = sym (m.begun_are s) ∙ eq-eqb (get_or marks s 0 % 4) 2 e

  pub mark_not_begun : (get_or marks s 0 % 4 ≡ 2 → ⊥) → member s begun ≡ false
  mark_not_begun d = sym (m.begun_are s) ∙ ne_eqb (get_or marks s 0 % 4) 2 d

  -- its definition begins
  pub marks_begin : s < length marks → Marks labels (s ∷ begun) (set marks s (4 * (get_or marks s 0 / 4) + 2))
  marks_begin small =
      let v = 4 * (get_or marks s 0 / 4) + 2 in
      let here : get_or (set marks s v) s 0 ≡ v = get_or-set_same marks s v 0 small in
      record {
        labels_are =
            λ x.
            elim (ℕ_discrete x s) [
              | yes e ↦
                  ap (λ (y : ℕ). get_or (set marks s v) y 0 / 4) e ∙ ap (λ (y : ℕ). y / 4) here ∙ quarter (get_or marks s 0)
                  ∙ m.labels_are s ∙ ap (label_word labels) (sym e)
              | no d ↦ ap (λ (y : ℕ). y / 4) (get_or-set_other marks s x v 0 d) ∙ m.labels_are x
            ];
        begun_are =
            λ x.
            elim (ℕ_discrete x s) [
              | yes e ↦
                  ap (λ (y : ℕ). eqb (get_or (set marks s v) y 0 % 4) 2) e ∙ ap (λ (y : ℕ). eqb (y % 4) 2) here
                  ∙ eq-eqb (v % 4) 2 (omega arith) ∙ sym (ap (λ (y : ℕ). member y (s ∷ begun)) e ∙ first_member s begun)
              | no d ↦
                  ap (λ (y : ℕ). eqb (y % 4) 2) (get_or-set_other marks s x v 0 d) ∙ m.begun_are x ∙ sym (member_other x s begun d)
            ];
      }
    where
      quarter : (y : ℕ) → (4 * (y / 4) + 2) / 4 ≡ y / 4
      quarter y = omega arith
