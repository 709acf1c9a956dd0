-- The contents, and the whole, as the functions answer them. Assumes nothing.
use mathlib.Core.Path.{◌≡◌, refl, sym, ◌∙◌, subst}
use mathlib.Core.Bool.{Bool, true, false}
use mathlib.Core.List.{List}
use Prim.Native.Nat.{ℕ}
use lib.ListN.{length, get_or, take}
use Rattle.laws.specs.Basics.{every_below}
use Rattle.laws.proofs.Tests.{true≢false}
use Rattle.laws.proofs.Checks.{refuted}
use Rattle.rules.specs.Layout.{Lent, header, heap_of}
use Rattle.rules.specs.Sound.{Sound, sound, value_allowed}
use Rattle.rules.proofs.SoundLaws.{clauses, together}
use Rattle.heap_sound_blocks.specs.Blocks.{shown}
use Rattle.heap_sound_cells.specs.Looked.{plain_at, value_at, text_good, vector_good, Looked}
use Rattle.heap_sound_table.specs.Entries.{Decided, TableGood}
use Rattle.heap_sound.specs.Parts.{Outline, Contents}
use Rattle.heap_sound.proofs.OutlineLaws.{Ground, ground, growth_is}
use Rattle.heap_sound.proofs.ContentLaws.{Seen, seen_allowed, seen_named, sound_seen, texts_sound, vectors_sound}
use Rattle.heap_sound.proofs.TabledLaws.{table_told, table_back}

pub grounded : (l : Lent) → Outline l → Ground l
grounded l o = ground l o.numbers o.counts (growth_is l ∙ o.growth)

module _ (l : Lent) (g : Ground l) where
  abbrev cap : ℕ
  cap = get_or l.words 1 0

  pub bytes_are : take (get_or l.words 4 0) l.bytes ≡ (heap_of l).bytes
  unfolding heap_of
  bytes_are = refl

  no_contents : (Contents l → ⊥) → Decided (Contents l) false
  no_contents n = record { holds = λ t. absurd (true≢false (sym t)); fails = λ _ o. n o }

  seen : Contents l → Seen l g
  seen c = sound_seen l g c.allowed c.named c.texts c.vectors

  pub plain_bad : every_below cap (plain_at l.words l.map cap) ≡ false → Decided (Contents l) false
  plain_bad e = no_contents (λ c. true≢false (sym (seen c).plain ∙ e))

  pub values_bad : every_below (get_or l.words 5 0) (λ k. value_allowed (value_at l.elems k)) ≡ false → Decided (Contents l) false
  values_bad e = no_contents (λ c. true≢false (sym (seen c).values ∙ e))

  module _ (bytes : List ℕ) (is : bytes ≡ (heap_of l).bytes) where
    texts_of : {q : Bool} → Looked (shown l.words 7 8) (length bytes) cap (text_good bytes) q
        → Looked (shown l.words 7 8) (length (heap_of l).bytes) cap (text_good (heap_of l).bytes) q
    texts_of {q} k = subst (λ (b : List ℕ). Looked (shown l.words 7 8) (length b) cap (text_good b) q) is k

    pub texts_bad : {q : Bool} → Looked (shown l.words 7 8) (length bytes) cap (text_good bytes) q → q ≡ false → Decided (Contents l) false
    texts_bad k e = no_contents (λ c. (texts_of k).bad e (seen c).texts (seen c).utf8s)

    pub contents_decided : every_below cap (plain_at l.words l.map cap) ≡ true
        → every_below (get_or l.words 5 0) (λ k. value_allowed (value_at l.elems k)) ≡ true
        → {p q : Bool} → Looked (shown l.words 7 8) (length bytes) cap (text_good bytes) p → p ≡ true
        → Looked (shown l.words 10 10) (get_or l.words 5 0) cap (vector_good l.elems l.map cap) q → q ≡ true
        → (r : Bool) → Decided (TableGood l.words l.map bytes cap (get_or l.words 3 0)) r → Decided (Contents l) r
    contents_decided a b t tt_is v vt_is r d =
        let s : Seen l g =
        record {
          plain = a;
          values = b;
          texts = (texts_of t).sound tt_is;
          utf8s = (texts_of t).all tt_is;
          vectors = v.sound vt_is;
          names = v.all vt_is;
        } in
        let w = subst (λ (x : List ℕ). Decided (TableGood l.words l.map x cap (get_or l.words 3 0)) r) is d in
        record {
          holds = λ e.
              record {
                allowed = seen_allowed l g s;
                named = seen_named l g s;
                texts = texts_sound l g s.texts;
                vectors = vectors_sound l g s.vectors;
                table = table_back l g (w.holds e);
              };
          fails = λ e c. w.fails e (table_told l g c.table);
        }

  pub vectors_bad : {q : Bool} → Looked (shown l.words 10 10) (get_or l.words 5 0) cap (vector_good l.elems l.map cap) q → q ≡ false
      → Decided (Contents l) false
  vectors_bad k e = no_contents (λ c. k.bad e (seen c).vectors (seen c).names)

-- ---- the whole

outline_of : (l : Lent) → Sound l → Outline l
unfolding header
outline_of l s =
    record {
      numbers = s.numbers;
      counts = s.counts;
      growth = s.growth;
      states = s.states;
      free_list = s.free_list;
      free_cells = s.free_cells;
      spare = s.spare;
    }

contents_of : (l : Lent) → Sound l → Contents l
contents_of l s = record { allowed = s.allowed; named = s.named; texts = s.texts; vectors = s.vectors; table = s.table }

joined : (l : Lent) → Outline l → Contents l → Sound l
unfolding header
joined l o c =
    record {
      numbers = o.numbers;
      counts = o.counts;
      allowed = c.allowed;
      growth = o.growth;
      states = o.states;
      free_list = o.free_list;
      free_cells = o.free_cells;
      named = c.named;
      texts = c.texts;
      vectors = c.vectors;
      table = c.table;
      spare = o.spare;
    }

module _ (l : Lent) {q : Bool} (o : Decided (Outline l) q) where
  pub not_sound : q ≡ false → false ≡ sound l
  not_sound e = refuted (sound l) (λ t. o.fails e (outline_of l (clauses l t)))

  pub sound_is : q ≡ true → (r : Bool) → Decided (Contents l) r → r ≡ sound l
  sound_is e true d = sym (together l (joined l (o.holds e) (d.holds refl)))
  sound_is e false d = refuted (sound l) (λ t. d.fails refl (contents_of l (clauses l t)))
