-- Law: the outlines of a program without faults are those of its templates, with their sizes.
use Rattle.std.proofs.Common.{◌≡◌, ℕ, suc, zero, ◌+◌, ◌<◌, ◌≤◌, List, [], ◌∷◌, ◌++◌, length, take, min, sum_by, slice_index, slice_get, Some, refl, ap, ap₂}
use Rattle.std.proofs.Common.{sym, ◌∙◌, arith, le_refl}
use Rattle.std.proofs.lemmas.List.{take_all}
use Rattle.std.proofs.lemmas.List.Sums.{sum_by-cons}
use Rattle.std.specs.List.{range_with_len, AllByRecursion}
use Rattle.cqp_syntax.specs.declared.ty.Ty.{Ty}
use Rattle.cqp_syntax.specs.Preorder.{process_size}
use Rattle.cqp_syntax.specs.Listing.{breadth_of}
use Rattle.cqp_syntax.proofs.Sizes.{length-process_nodes}
use Rattle.cqp_grammar.specs.Trees.{Parameter, ProcessTree}
use Rattle.cqp_expand.specs.declared.outline.Outline.{Outline}
use Rattle.cqp_expand.specs.declared.outline.Member.{Member}
use Rattle.cqp_expand.specs.declared.outline.Member.TheVariants.{Own, Call}
use Rattle.cqp_expand.specs.Renaming.{rename}
use Rattle.cqp_expand.specs.Counts.{count_of}
use Rattle.cqp_expand.specs.Expansion.{Template, argument_or_later}
use Rattle.cqp_expand.specs.Sizes.{member_count, member_length}
use Rattle.cqp_expand.specs.Spread.{body_at, template_at, member_size, member_breadth}
use Rattle.cqp_expand.specs.Outlines.{IsOutline}
use Rattle.cqp_expand.proofs.Placing.{process_size-rename}
use Rattle.cqp_expand.proofs.Copied.{IsCopied}
use Rattle.cqp_expand.proofs.Made.{numbers_of, index_within, fits_both, counts_made, starts_made}
use Rattle.cqp_expand.proofs.ScopedMembers.{Scoped}
use Rattle.cqp_expand.proofs.SpreadCounts.{nodes_breadth, nodes_length, rename_breadth}
use Rattle.cqp_expand.proofs.Small.{length-range, every}

-- the sizes of a template's body are sums over its members
pub record IsSummed (all : List Template) (d : Outline) (t : Template) : Type 0 where
  pub size : process_size t.body ≡ sum_by (member_size all) d.members.items
  pub breadth : count_of t.body ≡ sum_by (member_breadth all) d.members.items

-- so are those of each outline that is known
pub summed : (all : List Template) (types : List Ty) (defs : ℕ) (d : Outline) (t : Template) → IsCopied all types defs d t → IsSummed all d t
summed all types defs d t c =
    let xs = d.members.items in
    let args = range_with_len 0 t.arity in
    let count : length args ≡ t.arity = length-range 0 t.arity in
    let r = slice_index (args ++ numbers_of all 0 xs) in
    let m = λ (k : ℕ). sum_by (member_size all) (take k xs) in
    let started = starts_made all m (member_size all) 0 0 xs (every _ xs (λ x. refl)) (λ k l. none_before k) in
    let fit = fits_both all r m 0 0 xs (counts_made all defs (length xs) (length d.ty_of.items) t.arity 0 args xs (sym count) c.scoped) started in
    let q = argument_or_later args 0 in
    let law = c.nodes args 0 (m 0) r m count (λ x l. index_within args (numbers_of all 0 xs) x (omega (arith, l, count))) fit refl in
    record {
      size = sym (process_size-rename q t.body) ∙ sym (length-process_nodes (m 0) (rename q t.body)) ∙ ap length (sym law) ∙ nodes_length all r m 0 0 xs;
      breadth = sym (rename_breadth q t.body (m 0)) ∙ ap (sum_by breadth_of) (sym law) ∙ nodes_breadth all r m 0 0 xs;
    }
  where
    none_before : (k : ℕ) → sum_by (member_size all) (take (0 + k) d.members.items) ≡ 0 + sum_by (member_size all) (take k d.members.items)
    none_before k = let is : 0 + k ≡ k = omega arith in rw is (omega arith)

-- the outline tells the sizes of its definition
pub record IsSizedAs (all : List Template) (d : Outline) (t : Template) : Type 0 where
  pub count : d.count ≡ min (count_of t.body) 20001
  pub places : d.count ≤ 20000 → length d.starts.items ≡ length d.members.items + 1
  pub starts : d.count ≤ 20000 → (k : ℕ) → k ≤ length d.members.items → slice_index d.starts.items k ≡ sum_by (member_size all) (take k d.members.items)

-- the outline with the number is that of the template with the number
pub record IsKnownAs (all : List Template) (types : List Ty) (outlines : List Outline) (i : ℕ) : Type 0 where
  pub outline : Outline
  pub template : Template
  pub at_outline : slice_get outlines i ≡ Some outline
  pub at_template : template_at all i ≡ Some template
  pub copied : IsCopied all types i outline template
  pub sized : IsSizedAs all outline template

-- sums up to a bound
capped : (f g : Member → ℕ) (c : ℕ) (xs : List Member) → AllByRecursion (λ x. min (f x) c ≡ min (g x) c) xs → min (sum_by f xs) c ≡ min (sum_by g xs) c
capped f g c [] a = refl
capped f g c (x ∷ xs) a =
    rw (sum_by-cons f x xs, sum_by-cons g x xs) (both (f x) (g x) (sum_by f xs) (sum_by g xs) c a.0 (capped f g c xs a.1))
  where
    both : (a b s t c : ℕ) → min a c ≡ min b c → min s c ≡ min t c → min (a + s) c ≡ min (b + t) c
    both a b s t c h g = omega arith

-- sums of the first members
agree : (f g : Member → ℕ) (xs : List Member) → AllByRecursion (λ x. f x ≡ g x) xs → (k : ℕ) → sum_by f (take k xs) ≡ sum_by g (take k xs)
agree f g [] a zero = refl
agree f g [] a (suc k) = refl
agree f g (x ∷ xs) a zero = refl
agree f g (x ∷ xs) a (suc k) = sum_by-cons f x (take k xs) ∙ ap₂ (λ u v. u + v) a.0 (agree f g xs a.1 k) ∙ sym (sum_by-cons g x (take k xs))

module _ (all : List Template) (types : List Ty) (before : List Outline) (defs nodes total : ℕ)
    (knows : (i : ℕ) → i < defs → IsKnownAs all types before i) where
  -- members count as what they spread to, up to the bound
  counts_agree : (xs : List Member) (k : ℕ) → Scoped all defs nodes total k xs
      → AllByRecursion (λ x. min (member_count before x) 20001 ≡ min (member_breadth all x) 20001) xs
  counts_agree [] k s = tt
  counts_agree (Own x ∷ xs) k s = (refl, counts_agree xs _ s.1)
  counts_agree (Call def args ∷ xs) k s =
      let o = knows def s.0.before in
      let is : member_count before (Call def args) ≡ o.outline.count = rw o.at_outline refl in
      let body : body_at all def ≡ o.template.body = rw o.at_template refl in
      let count : min (member_count before (Call def args)) 20001
      ≡ min (count_of (body_at all def)) 20001 = rw (is, body, o.sized.count) (twice (count_of o.template.body)) in
      (count, counts_agree xs _ s.1)
    where
      twice : (a : ℕ) → min (min a 20001) 20001 ≡ min a 20001
      twice a = omega arith

  -- members are as long as what they spread to
  sizes_agree : (xs : List Member) (k : ℕ) → Scoped all defs nodes total k xs → sum_by (member_count before) xs ≤ 20000
      → AllByRecursion (λ x. member_length before x ≡ member_size all x) xs
  sizes_agree [] k s l = tt
  sizes_agree (Own x ∷ xs) k s l = (refl, sizes_agree xs _ s.1 (let sum = sum_by-cons (member_count before) (Own x) xs in omega (arith, l, sum)))
  sizes_agree (Call def args ∷ xs) k s l =
      let sum = sum_by-cons (member_count before) (Call def args) xs in
      let o = knows def s.0.before in
      let is : member_count before (Call def args) ≡ o.outline.count = rw o.at_outline refl in
      let small : o.outline.count ≤ 20000 = omega (arith, l, sum, is) in
      let body : body_at all def ≡ o.template.body = rw o.at_template refl in
      let last = o.sized.starts small (length o.outline.members.items) (omega arith) in
      let whole : take (length o.outline.members.items) o.outline.members.items
      ≡ o.outline.members.items = take_all (length o.outline.members.items) o.outline.members.items (le_refl (length o.outline.members.items)) in
      let size : process_size o.template.body ≡ sum_by (member_size all) o.outline.members.items = (summed all types def o.outline o.template o.copied).size in
      let length_is : member_length before (Call def args) ≡ slice_index o.outline.starts.items (length o.outline.members.items) = rw o.at_outline refl in
      (length_is ∙ last ∙ ap (sum_by (member_size all)) whole ∙ sym size ∙ ap process_size (sym body), sizes_agree xs _ s.1 (omega (arith, l, sum)))

  -- an outline behind others that are known
  pub sized_behind : (d : Outline) (t : Template) (names : List (List ℕ)) (ps : List Parameter) (p : ProcessTree)
      → IsOutline types before names ps p d → IsCopied all types defs d t → nodes ≡ length d.members.items → total ≡ length d.ty_of.items → IsSizedAs all d t
  sized_behind d t names ps p i c e g =
      let xs = d.members.items in
      let scoped : Scoped all defs nodes total t.arity xs = rw (e, g) c.scoped in
      let sums = summed all types defs d t c in
      record {
        count = i.count ∙ capped (member_count before) (member_breadth all) 20001 xs (counts_agree xs t.arity scoped)
            ∙ ap (λ z. min z 20001) (sym sums.breadth);
        places = λ l. (i.starts l).count;
        starts = λ l k h. (i.starts l).starts k h ∙ agree (member_length before) (member_size all) xs (sizes_agree xs t.arity scoped (small (sum_by
            (member_count before) xs) d.count i.count l)) k;
      }
    where
      small : (a b : ℕ) → b ≡ min a 20001 → b ≤ 20000 → a ≤ 20000
      small a b h l = omega arith
