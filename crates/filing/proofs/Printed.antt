-- What is printed: the page that was written, and the page of what was read.
use Rattle.std.proofs.Common.{◌≡◌, refl, sym, ap, subst, ◌∙◌, Bool, true, false, ℕ, ◌≤◌, ◌<◌, List, [], ◌++◌, None, Some, IfSome, arith, length, take, drop, take_all, length-append, length-take-le}
use Rattle.std.specs.declared.option.Option.{Option}
use Rattle.std.specs.Bool.{OnTrue}
use Rattle.std.specs.Io.KnownBytes.{Consumes, IsAtEnd, Appends}
use native.Mathlib.Decide.{dec_lt}
use borrow.Author.Tests.{lt-ltb, le-ltb}
use lib.Seq.{take_at}
use Rattle.model.specs.Answer.{refused, given, written}
use Rattle.model.specs.Limits.{most_input}
use Rattle.model.specs.Page.{page_of, printed}
use Rattle.page.specs.Writing.{write_page_of}
use Rattle.console.proofs.Inputs.{read_front}

-- A buffer too short for the page, and one with room for it.
module _ (s buffer : List ℕ) where
  page_short : length buffer < length (printed s) → record { answer = refused 12 0; lent = buffer } ≡ write_page_of s buffer
  unfolding write_page_of
  page_short h = rw (lt-ltb (length buffer) (length (printed s)) h, write_page_of) refl

  page_written : length (printed s) ≤ length buffer → record { answer = given (length (printed s)); lent = written (printed s) buffer } ≡ write_page_of s buffer
  unfolding write_page_of
  page_written h = rw (le-ltb (length buffer) (length (printed s)) h, write_page_of) refl

  -- A page that was written lies in the buffer, and is its front.
  pub page_front : (n : ℕ) → given n ≡ (write_page_of s buffer).answer → (n ≤ length (write_page_of s buffer).lent) × (take n (write_page_of s buffer).lent ≡ printed s)
  unfolding written
  page_front n e = go (dec_lt (length buffer) (length (printed s)))
    where
      go : Dec (length buffer < length (printed s)) → (n ≤ length (write_page_of s buffer).lent) × (take n (write_page_of s buffer).lent ≡ printed s)
      go (yes h) = let f = ap (λ r. r.answer) (page_short h) in let z : ◌≡◌ {A = ℕ} 0 1 = cc in absurd (omega arith)
      go (no h) =
          let page = printed s in
          let f = page_written (omega arith) in
          let l : length page ≡ n = let g = ap (λ r. r.answer) f in cc in (
            omega (arith, ap (λ r. length r.lent) f, length-append page (drop (length page) buffer)),
            ap (λ r. take n r.lent) (sym f) ∙ take_at page (drop (length page) buffer) n l,
          )

-- The bytes that were read up to the limit, or up to the input's end, have the input's page.
front_page : (s rest xs : List ℕ) (n : ℕ) → s ≡ take n xs ++ rest → n ≤ length xs → length xs ≡ most_input → (n < most_input → rest ≡ []) → printed (take n xs) ≡ printed s
unfolding printed
front_page s rest xs n joined within long ended =
    let short : length (take n xs) ≤ most_input = omega (arith, length-take-le n xs within) in
    ap page_of (take_all most_input (take n xs) short ∙ read_front most_input n s rest xs joined within long ended)

-- Where the page of what was read was written to an output, the input's page was.
page_read : (a b : Option (List ℕ)) (xs : List ℕ) (n : ℕ) (from to : Option (List ℕ)) → Consumes a b (take n xs) → n ≤ length xs → length xs ≡ most_input → (n < most_input → IsAtEnd b)
    → Appends from to (printed (take n xs)) → IfSome a (λ s. Appends from to (printed s))
page_read None b xs n from to read within long ended wrote = tt
page_read (Some s) None xs n from to read within long ended wrote = absurd read
page_read (Some s) (Some rest) xs n from to read within long ended wrote = subst (Appends from to) (front_page s rest xs n read within long ended) wrote

pub page_read_if : (done : Bool) (a b : Option (List ℕ)) (xs : List ℕ) (n : ℕ) (from to : Option (List ℕ)) → Consumes a b (take n xs) → n ≤ length xs → length xs ≡ most_input
    → (n < most_input → IsAtEnd b) → OnTrue done (Appends from to (printed (take n xs))) → OnTrue done (IfSome a (λ s. Appends from to (printed s)))
page_read_if true a b xs n from to read within long ended wrote = page_read a b xs n from to read within long ended wrote
page_read_if false a b xs n from to read within long ended wrote = tt
