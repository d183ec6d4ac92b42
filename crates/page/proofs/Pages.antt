-- What a settled sheet gives for the page's lines, and what the page function answers.
use mathlib.Core.Bool.{Bool, true, false, not}
use mathlib.Core.List.{List, [], ◌++◌}
use mathlib.Core.Path.{◌≡◌, refl, sym, ◌∙◌, ap}
use Prim.Native.Nat.{ℕ, ◌-◌, ◌*◌, ◌≤◌, ◌<◌}
use native.Mathlib.Decide.{dec_lt}
use native.Mathlib.Omega.{arith}
use borrow.Author.Tests.{lt-ltb, le-ltb, eq-eqb, ne_eqb}
use lib.Dec.{eqb}
use lib.ListN.{length, take, drop, length-drop}
use lib.Seq.{take_at, length-take-le}
use Rattle.model.specs.Sense.{plain}
use Rattle.model.specs.Finite.{concat, list_from}
use Rattle.model.specs.Field.{at}
use Rattle.model.specs.Card as model
use Rattle.model.specs.Norm.{kind_norm}
use Rattle.model.specs.Base.{settled_stage, settled_form, since}
use Rattle.model.specs.Limits.{most_input}
use Rattle.model.specs.Sheet.{kind_count, field_count, card_of, field_of}
use Rattle.model.specs.Refusal.{refusal, first_of, accept_checks, Accepted}
use Rattle.model.specs.Answer.{refused, given, written, row_of, form_of, table_of, prime_form, prime_form_in}
use Rattle.model.specs.Page.{refused_line, lines, page_of, printed}
use Rattle.theory.proofs.Lists.{length_from, from_same}
use Rattle.theory.proofs.Exec.{Tells}
use Rattle.theory.proofs.Sheets.{tells_reached, norm_tells}
use Rattle.theory.proofs.Answers.{demand1}
use Rattle.sheet.specs.declared.reader.Card.{Card}
use Rattle.sheet.proofs.Laws.{kinds_are, fields_are}
use Rattle.norms.specs.Norms.{Accepts}
use Rattle.norms.proofs.Laws.{norms_at}
use Rattle.rows.specs.Stage.{BaseAt}
use Rattle.filer.specs.Settlement.{table_in}
use Rattle.filer.proofs.Calls.{limits, table_is}
use Rattle.filer.proofs.Rows.{Whole, row_clear, row_inside}
use Rattle.text.specs.Appended.{Appended}
use Rattle.listing.specs.Line.{head_text, kind_text, field_at, kinds_text, fields_text}
use Rattle.verdicts.specs.Pair.{pair_at, pairs_text}
use Rattle.page.specs.Writing.{write_page_of}
use Rattle.text.proofs.Append.{from_start}
use Rattle.page.proofs.Lines.{lines_are}

-- The front of a buffer that a list was written to is the list.
pub front : (n : ℕ) (xs buffer : List ℕ) → length xs ≡ n → take n (written xs buffer) ≡ xs
unfolding written
front n xs buffer e = take_at xs (drop (length xs) buffer) n e

-- A row of a table has as many counts as there are kinds.
pub row_length : (n k : ℕ) (table : List ℕ) → Whole n k (length table) → length (row_of n k table) ≡ n
row_length n k table w =
    ap length ((demand1 []).row_part_is n k table (row_clear n k table w))
    ∙ length-take-le n (drop (k * n) table) (omega (arith, length-drop (k * n) table, row_inside n k table w))

module _ {s : List ℕ} {c : Card} {norms : List ℕ} (A : Accepts s c norms) where
  -- The first counts of a buffer that Prime form wrote to.
  pub form_part : (i : ℕ) (buffer form : List ℕ) → i < c.fields → c.kinds ≤ length buffer → form ≡ (form_of s i buffer).lent → take c.kinds form ≡ prime_form s i
  unfolding prime_form_in
  form_part i buffer form h l e =
      let n = kinds_are A.reads in
      let f = fields_are A.reads in
      ap (take c.kinds) (e ∙ ap (λ r. r.lent) ((demand1 s).formed (limits s A.accepted) plain i buffer (omega arith) (omega arith)))
      ∙ front c.kinds (prime_form s i) buffer (length_from (settled_form (card_of s) (field_of s i)) 0 (kind_count s) ∙ sym n)

  -- The first counts of a table that the final base was written to.
  pub table_part : (rows table : List ℕ) → BaseAt plain s (settled_stage (card_of s)) rows → take (c.kinds * c.kinds) table ≡ table_in c.kinds rows → take (c.kinds * c.kinds) table ≡ table_of s
  table_part rows table B e = e ∙ ap (λ (m : ℕ). table_in m rows) (kinds_are A.reads) ∙ table_is s A.accepted rows B

  -- A kind has norm 0 just when it is out.
  out_norm : (k : ℕ) → eqb (kind_norm (card_of s) k) 0 ≡ not (model.reached (card_of s) k)
  out_norm k = go (model.reached (card_of s) k) (tells_reached s A.accepted k)
    where
      w : ℕ
      w = kind_norm (card_of s) k

      go : (b : Bool) → Tells b (model.Reached (card_of s) k) → eqb w 0 ≡ not b
      go true t = ne_eqb w 0 (λ e. omega (arith, (norm_tells s A.accepted k).1 (t.fact tt)))
      go false t = eq-eqb w 0 (none (dec_lt 0 w))
        where
          none : Dec (0 < w) → w ≡ 0
          none (yes h) = absurd (t.test ((norm_tells s A.accepted k).0 h))
          none (no h) = omega arith

  -- The texts that make up the lines.
  texts : (n f stage : ℕ) (w q : ℕ → ℕ) (table : List ℕ) → List ℕ
  texts n f stage w q table =
      head_text n stage ++ concat (list_from (λ k. kind_text k (w k) (q k) (row_of n k table)) 0 n) ++ concat (list_from (field_at s) 0 f) ++ concat (list_from (pair_at s) 1 (f - 1))

  -- They show the marks of the card's kinds alone.
  texts_marked : (f stage : ℕ) (w q r : ℕ → ℕ) (table : List ℕ) → ((k : ℕ) → k < kind_count s → q k ≡ r k) → texts (kind_count s) f stage w q table ≡ texts (kind_count s) f stage w r table
  unfolding texts
  texts_marked f stage w q r table h =
      ap (λ (xs : List (List ℕ)). head_text (kind_count s) stage ++ concat xs ++ concat (list_from (field_at s) 0 f) ++ concat (list_from (pair_at s) 1 (f - 1)))
      (from_same _ _ 0 (kind_count s) (λ k i l. ap (λ (x : ℕ). kind_text k (w k) x (row_of (kind_count s) k table)) (h k (omega arith))))

  pub lines_from : (stage : ℕ) (marks table : List ℕ) → stage ≡ settled_stage (card_of s) → ((k : ℕ) → k < kind_count s → at marks k ≡ since (card_of s) k) → table ≡ table_of s
      → head_text c.kinds stage ++ kinds_text c.kinds norms marks table ++ fields_text s c.fields ++ pairs_text s c.fields ≡ lines s (table_of s) (kind_norm (card_of s))
  unfolding texts kinds_text fields_text pairs_text
  lines_from stage marks table e m t =
      ap (λ (n : ℕ). texts n c.fields stage (at norms) (at marks) table) (kinds_are A.reads)
      ∙ ap (λ (f : ℕ). texts (kind_count s) f stage (at norms) (at marks) table) (fields_are A.reads)
      ∙ ap (λ (q : ℕ). texts (kind_count s) (field_count s) q (at norms) (at marks) table) e
      ∙ ap (λ (w : ℕ → ℕ). texts (kind_count s) (field_count s) (settled_stage (card_of s)) w (at marks) table) (norms_at A)
      ∙ texts_marked (field_count s) (settled_stage (card_of s)) (kind_norm (card_of s)) (at marks) (since (card_of s)) table m
      ∙ ap (λ (xs : List ℕ). texts (kind_count s) (field_count s) (settled_stage (card_of s)) (kind_norm (card_of s)) (since (card_of s)) xs) t
      ∙ sym (lines_are s (table_of s) (kind_norm (card_of s)) out_norm)

  -- The page of an accepted sheet is its lines.
  pub page_lines : lines s (table_of s) (kind_norm (card_of s)) ≡ page_of s
  unfolding Accepted page_of
  page_lines = rw (A.accepted, page_of) refl

-- The page of a refused sheet is its refusal.
pub page_refusal : (s : List ℕ) (k p : ℕ) → first_of (accept_checks s) ≡ refusal k p → refused_line k p ≡ page_of s
unfolding page_of
page_refusal s k p e = rw (e, page_of) refl

-- A buffer too short for the page, and one with room for it.
module _ (s buffer : List ℕ) where
  page_short : length buffer < length (printed s) → record { answer = refused 12 0; lent = buffer } ≡ write_page_of s buffer
  unfolding write_page_of
  page_short h = rw (lt-ltb (length buffer) (length (printed s)) h, write_page_of) refl

  page_written : length (printed s) ≤ length buffer → record { answer = given (length (printed s)); lent = written (printed s) buffer } ≡ write_page_of s buffer
  unfolding write_page_of
  page_written h = rw (le-ltb (length buffer) (length (printed s)) h, write_page_of) refl

  -- A page that was written fits the buffer: what a caller that takes the front of the buffer owes.
  pub written_within : (n : ℕ) → given n ≡ (write_page_of s buffer).answer → n ≤ length buffer
  written_within n e = go (dec_lt (length buffer) (length (printed s)))
    where
      go : Dec (length buffer < length (printed s)) → n ≤ length buffer
      go (yes h) = let f = ap (λ r. r.answer) (page_short h) in let z : ◌≡◌ {A = ℕ} 0 1 = cc in absurd (omega arith)
      go (no h) = let f = ap (λ r. r.answer) (page_written (omega arith)) in let l : n ≡ length (printed s) = cc in omega arith

-- The page function, from a page that was put into an array, of the first bytes of s.
module _ {m end : ℕ} {array page part : List ℕ} (s buffer : List ℕ) (first : part ≡ take most_input s) (put : Appended m array 0 (page_of part) page end) where
  page_is : take end page ≡ printed s
  unfolding printed
  page_is = put.written ∙ ap page_of first

  end_is : end ≡ length (printed s)
  unfolding printed
  end_is = omega (arith, put.ends, ap (λ (xs : List ℕ). length (page_of xs)) first)

  pub answers_short : length buffer < end → (refused 12 0 ≡ (write_page_of s buffer).answer) × (buffer ≡ (write_page_of s buffer).lent)
  answers_short h =
      let e = page_short s buffer (omega (arith, end_is)) in
      (ap (λ r. r.answer) e, ap (λ r. r.lent) e)

  pub answers_written : {n k : ℕ} {after : List ℕ} → end ≤ length buffer → Appended k buffer 0 (take end page) after n
      → (given n ≡ (write_page_of s buffer).answer) × (after ≡ (write_page_of s buffer).lent)
  answers_written {n} h copied =
      let e = page_written s buffer (omega (arith, end_is)) in
      let l : n ≡ length (printed s) = omega (arith, copied.ends, ap length page_is) in
      (ap given l ∙ ap (λ r. r.answer) e, from_start copied ∙ ap (λ (xs : List ℕ). written xs buffer) page_is ∙ ap (λ r. r.lent) e)
