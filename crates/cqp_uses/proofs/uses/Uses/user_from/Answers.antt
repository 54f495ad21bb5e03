use Rattle.std.proofs.Common.{rules, ◌≡◌, ◌<◌, ℕ, nat_lt, List, length, slice_index_or, slice_get, Option, Some, None, is_some, Bor, sym, ap, subst, arith, ◌∙◌}
use Rattle.std.specs.Option.{option_copied, option_map, unwrap_or}
use Rattle.std.proofs.lemmas.Bool.{ltb-true, ltb-false}
use Rattle.std.proofs.lemmas.Option.{slice_get_past, slice_get-get_or}
use Rattle.std.proofs.lemmas.List.Sorted.{IsPartitionPoint-from_clause}
use Rattle.cqp_parts.proofs.Lists.{any_default}
use Rattle.cqp_uses.proofs.FreeAnswers.{first_user}
use Rattle.cqp_uses.proofs.uses.Uses.user_from.Goals as goal

-- what is read at a place
read : (r : Option (Bor ℕ)) (us : List ℕ) (at : ℕ) → is_some r ≡ nat_lt at (length us)
    → ((d : ℕ) → unwrap_or (option_map (λ x. x.now) r) d ≡ slice_index_or us at d) → option_copied r ≡ slice_get us at
read None us at s e = sym (slice_get_past us at (ltb-false at (length us) (sym s)))
read (Some b) us at s e = sym (slice_get-get_or us at 0 (ltb-true at (length us) (sym s)) ∙ ap Some (sym (e 0)))

pub returns : goal.returns
returns c l is =
    let u = c.args.self.now in
    let n = c.args.n in
    let x = c.args.name in
    let us = c.as_slice-users.result.now in
    let at = c.partition_point.result in
    let names = ap (λ v. v.names) c.self.view_is in
    let named = subst (λ xs. x < length xs) (sym names) c.requires.named in
    let first = c.index.ensures ∙ any_default c.self.inside.names.items x c.index.result.now us named in
    let are_us : us ≡ slice_index_or u.names x us = c.as_slice-users.ensures ∙ (first ∙ ap (λ xs. slice_index_or xs x us) names) in
    let told = first_user l u is x n us at c.requires.named are_us in
    let point = IsPartitionPoint-from_clause (λ (m : ℕ). nat_lt m n) us at c.partition_point.ensures.partitioned told.0 (λ a r f k. search rules) in
    c.copied.ensures ∙ (read c.get.result us at c.get.ensures.lookup.0 (λ d. c.get.ensures.lookup.4 (omega arith) d) ∙ told.1 point)
