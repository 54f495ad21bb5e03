use Rattle.cqp_choose.proofs.BornLemmas.{born_alike}
use Rattle.cqp_choose.proofs.laws.born_laws.Goals as goal

pub returns-clause-alike : goal.returns-clause-alike
returns-clause-alike c word xs ys i fair also h = born_alike (record {
  commutes = c.ring_laws.ensures.root_commutes;
  associates = c.ring_laws.ensures.root_associates;
  distributes = c.ring_laws.ensures.root_distributes;
  total = c.order_laws.ensures.total;
  both = c.order_laws.ensures.both;
  products = c.order_laws.ensures.products;
  sum = c.sign_laws.ensures.sum;
  cancelled = c.sign_laws.ensures.cancelled;
})
    word xs ys i fair also h (c.list_laws.ensures.back xs ys h)
