-- The laws of opening: what each check refuses, and what is left where none does. Assumes nothing.
--
--   size-refused, size-given     the answers of `size`
--   not-in-range, not-constants, not-names, not-long, all-passed     the opening, one check after another
--   passed-good                  an opening that passed its checks is good
--   names-given                  its names are those that were read
--   refused_as, done-as          the answers of `open`
--   lent-head, lent-rest         the head is lent, and the store that it tells of
--   head-then-rest               the head is written and the rest emptied: the lent bytes hold what was opened
use Rattle.std.specs.Prelude.{ℕ, ◌+◌, ◌-◌, ◌≤◌, ◌<◌, ◌≡◌, refl, true, false, List, length, get_or, drop, Ok, Err}
use Rattle.std.proofs.Common.{arith, ◌∙◌, get_or-drop}
use Rattle.std.proofs.Math.Path.{ap}
use borrow.Author.Tests.{le-leb, lt-leb}
use Rattle.trees.specs.Plain.{Answer, refused, gives}
use Rattle.trees.specs.Names.{names_in, good_names}
use Rattle.trees.specs.Opening.{Numbers, Opening, in_range, good_constants, store_size, sizing, opening, head_bytes}
use Rattle.trees.specs.Held.{opened}
use Rattle.trees.specs.Whole.{good_opening}
use Rattle.theorems.specs.ListLaws.{and-true}
use Rattle.answers.specs.declared.Refusal.{Refusal}
use Rattle.answers.specs.declared.Refusal.TheVariants as why
use Rattle.answers.specs.Answers.{refusal_number, finish_given, number_given}
use Rattle.fields.specs.Field.{number}
use Rattle.head.specs.Head.{opening_at}
use Rattle.opening.specs.Given.{opening_with, opening_of}
use Rattle.opening.specs.GivenLaws.{size-least}
use Rattle.layout.specs.Store.{size_at}
use Rattle.store.specs.Lent.{Holds}
use Rattle.table.specs.Promises.{OpenedAs}
use Rattle.layout.specs.StoreLaws.{trees-held-is, splits-held-is}
use Rattle.layout.specs.WholeFacts.{HeadAt}
use Rattle.table.specs.Emptied.{Emptied}
use Rattle.table.specs.EmptiedLaws.{emptied-whole, emptied-held}

-- ---- the size

pub size-refused : (x : Numbers) → in_range x ≡ false → number_given (Err why.OutOfRange) ≡ sizing x
unfolding number_given sizing
size-refused x e = rw e

pub size-given : (x : Numbers) (n : ℕ) → in_range x ≡ true → n ≡ store_size x → number_given (Ok n) ≡ sizing x
unfolding number_given sizing
size-given x n e h = rw (e, h)

-- ---- the opening, one check after another

module _ (x : Numbers) (list first second : List ℕ) (lent : ℕ) where
  pub not-in-range : in_range x ≡ false → opening x list first second lent ≡ refused 2
  unfolding opening
  not-in-range a = rw a

  module _ (a : in_range x ≡ true) where
    pub not-constants : good_constants x first second ≡ false → opening x list first second lent ≡ refused 2
    unfolding opening
    not-constants b = rw (a, b)

    module _ (b : good_constants x first second ≡ true) where
      pub not-names : good_names x.taxa (names_in list) ≡ false → opening x list first second lent ≡ refused 3
      unfolding opening
      not-names d = rw (a, b, d)

      module _ (d : good_names x.taxa (names_in list) ≡ true) where
        pub not-long : lent < store_size x → opening x list first second lent ≡ refused 4
        unfolding opening
        not-long h = rw (a, b, d, lt-leb (store_size x) lent h)

        pub all-passed : store_size x ≤ lent → opening x list first second lent ≡ gives (opening_of x list first second)
        unfolding opening
        all-passed h = rw (a, b, d, le-leb (store_size x) lent h)

pub passed-good : (x : Numbers) (list first second : List ℕ) → in_range x ≡ true → good_constants x first second ≡ true
    → good_names x.taxa (names_in list) ≡ true → good_opening (opening_of x list first second) ≡ true
unfolding good_opening
passed-good x list first second a b d = and-true a (and-true b d)

-- the head that was written is that of the name list
pub names-given : (x : Numbers) (list first second t : List ℕ) (ns : List (List ℕ)) → ns ≡ names_in list → opening_at t ≡ opening_with x ns first second
    → opening_at t ≡ opening_of x list first second
names-given x list first second t ns q e = e ∙ ap (λ (ws : List (List ℕ)). opening_with x ws first second) q

-- ---- the answers of `open`

pub refused_as : (a : Answer Opening) (k : ℕ) (r : Refusal) (s : List ℕ) → a ≡ refused k → refusal_number r ≡ k → OpenedAs a (Err r) s s
unfolding OpenedAs finish_given
refused_as a k r s e h = rw e (ap refused h, refl)

pub done-as : (a : Answer Opening) (o : Opening) (s t : List ℕ) → a ≡ gives o → Holds (opened o) s t → OpenedAs a (Ok tt) s t
unfolding OpenedAs finish_given
done-as a o s t e h = rw e (refl, h)

-- ---- the head is written and the rest emptied

pub lent-head : (x : Numbers) (lent : ℕ) → store_size x ≤ lent → head_bytes ≤ lent
lent-head x lent h = omega (arith, size-least x)

module _ (s t : List ℕ) (o : Opening) (e : opening_at t ≡ o) (n : length t ≡ length s) (f : store_size o.numbers ≤ length s) where
  head-size : size_at t ≡ store_size o.numbers
  unfolding size_at opening_at
  head-size = ap (λ (x : Opening). store_size x.numbers) e

  pub lent-rest : size_at t ≤ length t
  lent-rest = omega (arith, head-size)

  head-good : good_opening o ≡ true → number 2 t 10 ≡ 0 → number 2 t 12 ≡ 0 → HeadAt t
  head-good g a b =
      record {
        head-there = omega (arith, size-least o.numbers);
        opening-good = rw e g;
        reached = lent-rest;
        trees-fit = omega (arith, trees-held-is t);
        splits-fit = omega (arith, splits-held-is t);
      }

  module _ (z : drop head_bytes t ≡ drop head_bytes s) where
    past_head : (i : ℕ) → head_bytes ≤ i → get_or t i 0 ≡ get_or s i 0
    past_head i h =
        let q : head_bytes + (i - head_bytes) ≡ i = omega arith in
        rw (get_or-drop head_bytes t, get_or-drop head_bytes s, q) at (ap (λ (l : List ℕ). get_or l (i - head_bytes) 0) z)

    pub head-then-rest : (u : List ℕ) → good_opening o ≡ true → number 2 t 10 ≡ 0 → number 2 t 12 ≡ 0 → ((i : ℕ) → get_or t i 0 < 256) → Emptied t u → Holds (opened o) s u
    unfolding opened
    head-then-rest u g a b c p =
        let l = size-least o.numbers in
        let h = head-good g a b in
        record {
          whole = emptied-whole t u p h a b c;
          held = emptied-held t u p h a b c ∙ ap opened e;
          size = p.size ∙ n;
          behind = λ i h. p.behind i (omega (arith, head-size)) ∙ past_head i (omega arith);
        }
