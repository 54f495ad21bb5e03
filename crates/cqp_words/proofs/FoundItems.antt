-- What is given by words that `clap` takes.
use Rattle.std.proofs.Common.{◌≡◌, List, [], ◌∷◌, true, false, Some, None, Option, refl, ap, sym, ◌∙◌, map, codes}
use Rattle.std.specs.List.{list_all}
use Rattle.std.specs.Borrow.{Bor}
use Rattle.clap.specs.Walk.{rows_of}
use Rattle.clap.specs.Matches.{found_of}
use Rattle.clap.specs.Simple.{matches_of}
use Rattle.clap.specs.Faults.{fault_of}
use Rattle.clap.specs.declared.parser.matches.ArgMatches.{ArgMatches}
use Rattle.cqp_words.specs.Apps.{cqp}
use Rattle.cqp_words.specs.Items.{Text, Item, AreItems, form_of, is_known, items_from, flag_id}
use Rattle.cqp_words.specs.Given.{Gives, values_at}
use Rattle.cqp_words.proofs.Bools.{fails, both}
use Rattle.cqp_words.proofs.Walks.{AreKnown, all_added}
use Rattle.cqp_words.proofs.Parses.{taken, not_taken}
use Rattle.cqp_words.proofs.Relation.{found, are}
use Rattle.cqp_words.proofs.Values.{words_found, options_found}

-- words each of which is known
pub all_known : (ws : List (Bor Text)) → list_all (λ w. is_known (form_of w.now)) ws ≡ true → AreKnown (map (λ w. w.now) ws)
all_known [] h = tt
all_known (w ∷ ws) h =
    let parts = both (is_known (form_of w.now)) (list_all (λ v. is_known (form_of v.now)) ws) h in
    (parts.0, all_known ws parts.1)

-- and words that are known pass the test
pub known_all : (ws : List (Bor Text)) → AreKnown (map (λ w. w.now) ws) → list_all (λ w. is_known (form_of w.now)) ws ≡ true
known_all [] h = refl
known_all (w ∷ ws) h = rw h.0 (known_all ws h.1)

-- what was given
pub record IsGiven (words : List Text) (m : ArgMatches) : Type 0 where
  pub items : List Item
  pub are_items : AreItems words items
  pub gives : Gives m items

-- matches whose rows are those of the items give the items
gives : (m : ArgMatches) (is : List Item) → rows_of (found_of m) ≡ all_added is [] → Gives m is
gives m is e = record {
  words = ap (values_at (codes "word")) e ∙ words_found is [];
  options = λ f. ap (values_at (flag_id f)) e ∙ options_found f is [];
}

-- the matches of words that are taken give their items
pub are_given : (words : List Text) (m : ArgMatches) → AreKnown words → fault_of cqp words ≡ []
    → rows_of (found_of m) ≡ matches_of cqp words → IsGiven words m
are_given words m k f e = by (items_from None words) refl
  where
    by : (o : Option (List Item)) → items_from None words ≡ o → IsGiven words m
    by None q = absurd (not_taken words k q f)
    by (Some is) q = record { items = is; are_items = are None words is q; gives = gives m is (e ∙ (taken words is k q).1) }

-- words that are refused are no items
pub no_items : (words : List Text) → (fault_of cqp words ≡ [] → ⊥) → (is : List Item) → AreItems words is → ⊥
no_items words f is a = let r = found words is a in f (taken words is r.known r.found).0

-- words of which one is not known are no items
pub unknown_items : (ws : List (Bor Text)) → list_all (λ w. is_known (form_of w.now)) ws ≡ false → (is : List Item)
    → AreItems (map (λ w. w.now) ws) is → ⊥
unknown_items ws h is a =
    let r = found (map (λ w. w.now) ws) is a in
    let all = known_all ws r.known in
    fails (sym h ∙ all)
