-- What a cell in the lent lists leads to, by its kind, and slots pushed one part after the other. Assumes nothing.
use mathlib.Core.Path.{◌≡◌, refl, sym, ap, ◌∙◌, subst}
use mathlib.Core.List.{List, [], ◌∷◌, ◌++◌, map}
use Prim.Native.Nat.{ℕ, suc, ◌+◌, ◌-◌, ◌≤◌, ◌<◌}
use native.Mathlib.Nat.{zero-add}
use native.Mathlib.Numerals.{add-one}
use native.Mathlib.Omega.{arith}
use lib.ListN.{length, get_or, take, drop, length-map}
use lib.Seq.{take-suc, drop-cons, ext_get_or}
use Rattle.laws.specs.Basics.{rising, basics}
use Rattle.laws.proofs.Lists.{length-rising, get_or_map_rising}
use Rattle.laws.proofs.Pointwise.{get_d_part, length_part}
use Rattle.rules.specs.Cells.{undefined, Value, slot, scalar, block, plain}
use Rattle.rules.specs.Heap.{Heap, cell_at, elements_of}
use Rattle.rules.specs.Layout.{layout_rules}
use Rattle.rules.specs.Collect.{slots_among, leads_to}
use Rattle.leaf_cells.specs.Cells.{cell_of, loaded}
use Rattle.leaf_cells.specs.Elements.{value_of, loaded_element}
use Rattle.leaf_cells.specs.declared.VCell.{VCell}
use Rattle.leaf_cells.specs.declared.VCell.TheVariants as cell
use Rattle.leaf_cells.specs.declared.Value as given
use Rattle.leaf_cells.specs.declared.Value.TheVariants as value
use Rattle.leaf_cells.proofs.Variants.{Plain}
use Rattle.heap_sound_rows.specs.Rows.{lists}
use Rattle.heap_sound_rows.proofs.HeapFacts.{elements_length}
use Rattle.heap_mark.specs.Marks.{values, linked, leads, Rowed, CanPush, Pushed}
use Rattle.heap_mark.proofs.Pushes.{can_rest, pushed_on, pushed_none, can_first, pushed_size}

-- ---- a value

pub no_slot : (v : Value) → Plain v → slots_among (v ∷ []) ≡ []
unfolding slots_among
no_slot v p = ap (λ (w : Value). slots_among (w ∷ [])) p.is

pub one_slot : (v : given.Value) (s : ℕ) → v ≡ value.Slot s → slots_among (value_of v ∷ []) ≡ s ∷ []
unfolding slots_among
one_slot v s e = ap (λ (w : given.Value). slots_among (value_of w ∷ [])) e

-- ---- a cell

no_leads : (h : Heap) (c : VCell) → ((a d : ℕ) → c ≡ cell.Pair a d → ⊥) → ((p n : ℕ) → c ≡ cell.Vector p n → ⊥) → leads_to h (cell_of c) ≡ []
unfolding leads_to
no_leads h cell.Undefined y z = refl
no_leads h cell.Nil y z = refl
no_leads h cell.Eof y z = refl
no_leads h cell.Void y z = refl
no_leads h (cell.Bool b) y z = refl
no_leads h (cell.Char n) y z = refl
no_leads h (cell.Number n) y z = refl
no_leads h (cell.Pair a d) y z = absurd (y a d refl)
no_leads h (cell.Symbol p n) y z = refl
no_leads h (cell.String p n) y z = refl
no_leads h (cell.Vector p n) y z = absurd (z p n refl)

module _ (words elems : List ℕ) (s : ℕ) (small : s < get_or words 1 0) where
  pub linked_cell : cell_at (linked words elems) s ≡ loaded words s
  unfolding layout_rules loaded
  linked_cell = get_or_map_rising _ 0 (get_or words 1 0) s (plain undefined) small ∙ ap (loaded words) (zero-add s)

  module _ (c : VCell) (is : cell_of c ≡ loaded words s) where
    leads_of : leads words elems s ≡ leads_to (linked words elems) (cell_of c)
    leads_of = ap (leads_to (linked words elems)) (linked_cell ∙ sym is)

    pub leads_pair : (a d : ℕ) → c ≡ cell.Pair a d → leads words elems s ≡ a ∷ d ∷ []
    unfolding leads_to
    leads_pair a d e = leads_of ∙ ap (λ (x : VCell). leads_to (linked words elems) (cell_of x)) e

    pub leads_nowhere : ((a d : ℕ) → c ≡ cell.Pair a d → ⊥) → ((p n : ℕ) → c ≡ cell.Vector p n → ⊥) → leads words elems s ≡ []
    leads_nowhere y z = leads_of ∙ no_leads (linked words elems) c y z

    module _ (p n : ℕ) (e : c ≡ cell.Vector p n) (r : Rowed words elems) where
      pub vector_fits : p + n ≤ get_or words 5 0
      vector_fits = r.vectors s (block p n) (linked_cell ∙ sym is ∙ ap cell_of e)

      part_values : elements_of (linked words elems) (block p n) ≡ values elems p n
      unfolding layout_rules values loaded_element
      part_values =
          let size = elements_length (lists words [] [] elems) in
          let long : length (elements_of (linked words elems) (block p n)) ≡ n =
          length_part (linked words elems).elements p n (omega (arith, vector_fits))
          in
          ext_get_or (scalar undefined) (elements_of (linked words elems) (block p n)) (values elems p n)
          (long ∙ sym (length-map (rising p n) (loaded_element elems) ∙ length-rising p n))
          (λ i l.
          let low : i < n = omega arith in
          get_d_part (linked words elems).elements p n i (scalar undefined) low
          ∙ get_or_map_rising (loaded_element elems) 0 (get_or words 5 0) (p + i) (scalar undefined) (omega (arith, vector_fits))
          ∙ ap (loaded_element elems) (zero-add (p + i))
          ∙ sym (get_or_map_rising (loaded_element elems) p n i (scalar undefined) low))

      pub leads_vector : leads words elems s ≡ slots_among (values elems p n)
      unfolding leads_to
      leads_vector =
          leads_of ∙ ap (λ (x : VCell). leads_to (linked words elems) (cell_of x)) e ∙ ap slots_among part_values

-- ---- elements one by one

slots_append : (vs ws : List Value) → slots_among (vs ++ ws) ≡ slots_among vs ++ slots_among ws
unfolding slots_among
slots_append [] ws = refl
slots_append (slot s ∷ vs) ws = ap (λ (l : List ℕ). s ∷ l) (slots_append vs ws)
slots_append (scalar x ∷ vs) ws = slots_append vs ws

module _ (elems : List ℕ) (place : ℕ) where
  values_last : (n : ℕ) → values elems place (n + 1) ≡ values elems place n ++ (loaded_element elems (place + n) ∷ [])
  unfolding values basics
  values_last n =
      ap (λ (k : ℕ). values elems place k) (add-one n) ∙ ap (map (loaded_element elems)) (Rattle.laws.proofs.Zeros.rising_last place n)
      ∙ mathlib.Core.List.map-append (loaded_element elems) (rising place n) ((place + n) ∷ [])

  pub slots_last : (n : ℕ) → slots_among (values elems place (n + 1)) ≡ slots_among (values elems place n) ++ slots_among (loaded_element elems (place + n) ∷ [])
  slots_last n = ap slots_among (values_last n) ∙ slots_append (values elems place n) (loaded_element elems (place + n) ∷ [])

  pub slots_first : (i n : ℕ) → i < n → slots_among (values elems (place + i) (n - i)) ≡ slots_among (loaded_element elems (place + i) ∷ []) ++ slots_among (values elems (place + (i + 1)) (n - (i + 1)))
  unfolding values basics
  slots_first i n l =
      let one : n - i ≡ suc (n - (i + 1)) = omega arith in
      let next : suc (place + i) ≡ place + (i + 1) = omega arith in
      ap (λ (k : ℕ). slots_among (values elems (place + i) k)) one
      ∙ ap (λ (k : ℕ). slots_among (loaded_element elems (place + i) ∷ values elems k (n - (i + 1)))) next
      ∙ slots_append (loaded_element elems (place + i) ∷ []) (values elems (place + (i + 1)) (n - (i + 1)))

-- ---- a turn: what was pushed, and what is left to push

pub record Along (front back m₀ sc₀ : List ℕ) (top₀ : ℕ) (m sc : List ℕ) (top : ℕ) : Type 0 where
  pub done : Pushed front m₀ sc₀ top₀ m sc top
  pub rest : CanPush back m sc top
  pub size : length sc ≡ length sc₀
  pub map-size : length m ≡ length m₀

pub along : (ss m sc : List ℕ) (top : ℕ) → CanPush ss m sc top → Along [] ss m sc top m sc top
along ss m sc top c =
    record { done = pushed_none m sc top (omega (arith, c.room)); rest = c; size = refl; map-size = refl }

module _ (front back m₀ sc₀ : List ℕ) (top₀ : ℕ) (m sc : List ℕ) (top : ℕ) (a : Along front back m₀ sc₀ top₀ m sc top) where
  pub along_next : (piece later : List ℕ) → back ≡ piece ++ later → CanPush piece m sc top
  along_next piece later e = can_first piece later m sc top (subst (λ (l : List ℕ). CanPush l m sc top) e a.rest)

  pub along_on : (piece later front' m' sc' : List ℕ) (top' : ℕ) → back ≡ piece ++ later → front' ≡ front ++ piece → Pushed piece m sc top m' sc' top' → length sc' ≡ length sc → Along front' later m₀ sc₀ top₀ m' sc' top'
  along_on piece later front' m' sc' top' e f p l =
      record {
        done = subst (λ (x : List ℕ). Pushed x m₀ sc₀ top₀ m' sc' top') (sym f) (pushed_on front m₀ sc₀ top₀ m sc top a.done piece m' sc' top' p);
        rest = can_rest piece m sc top m' sc' top' p later (subst (λ (x : List ℕ). CanPush x m sc top) e a.rest) l;
        size = l ∙ a.size;
        map-size = pushed_size piece m sc top m' sc' top' p (along_next piece later e) ∙ a.map-size;
      }

pub take_more : (l : List ℕ) (i : ℕ) → i < length l → take (i + 1) l ≡ take i l ++ (get_or l i 0 ∷ [])
take_more l i h = ap (λ (n : ℕ). take n l) (add-one i) ∙ take-suc l i 0 h

pub drop_more : (l : List ℕ) (i : ℕ) → i < length l → drop i l ≡ (get_or l i 0 ∷ []) ++ drop (i + 1) l
drop_more l i h = drop-cons l i 0 h ∙ ap (λ (n : ℕ). get_or l i 0 ∷ drop n l) (sym (add-one i))

pub take_whole : (l : List ℕ) (i : ℕ) → i ≤ length l → length l ≤ i → take i l ≡ l
take_whole l i a b = let e : i ≡ length l = omega arith in ap (λ (n : ℕ). take n l) e ∙ lib.Seq.take-length l
