-- Each site that is closed gives the book of the node after those that were closed.
use Rattle.std.proofs.Common.{rules, ℕ, length, ap, sym, ◌∙◌, arith}
use Rattle.std.specs.Vec.Iter.{into_iter_items}
use Rattle.std.proofs.lemmas.List.{length-map}
use Rattle.ra_site.specs.Cluster.{ClusterState}
use Rattle.ra_site.specs.Sites.{SiteState, sites_to}
use Rattle.ra_site.proofs.SiteNumbers.{nodes_at, numbered, next_within, closes_none, closes_more, closes_all}
use Rattle.ra_site.proofs.cluster.Cluster.close.Goals as goal

pub loop-site-init : goal.loop-site-init
loop-site-init g c =
    let gives = c.into_iter-site-iterator.ensures.into_iter_gives in
    record {
      closes =
          rw
          c.into_sites-sites.ensures.empty
          (closes_none
          c.nodes-nodes.result
          c.self.inside.start
          (nodes_at (into_iter_items c.into_iter-site-iterator.result))
          (numbered c.nodes-nodes.result c.args.self.audited (into_iter_items c.into_iter-site-iterator.result)
          (gives.0 ∙ (c.into_sites-sites.ensures.sites ∙ ap (λ (k : ℕ). sites_to k c.args.self.audited) (sym c.nodes-nodes.ensures)))));
      counted = search rules;
      room = search rules;
    }

pub close_as-requires-clause-member : goal.close_as-requires-clause-member
close_as-requires-clause-member g c =
    next_within
    c.nodes-nodes.result
    c.self.inside.start
    c.loop-site.books.items
    c.in-Some.site.node
    (nodes_at (into_iter_items c.next.new.self))
    (rw c.in-Some.ensures.steps.0 at c.loop-site.invariant.closes)

pub loop-site-preserved : goal.loop-site-preserved
loop-site-preserved g c =
    let steps = c.in-Some.ensures.steps in
    let more = ap length steps.0 in
    record {
      closes =
          rw
          c.push_reserved.ensures.items
          (closes_more
          c.nodes-nodes.result
          c.self.inside.start
          c.loop-site.books.items
          c.in-Some.site.node
          (nodes_at (into_iter_items c.next.new.self))
          c.close_as.result
          (rw steps.0 at c.loop-site.invariant.closes)
          c.close_as.ensures.me_is
          c.close_as.ensures.nodes_are
          c.close_as.ensures.start_is
          c.close_as.ensures.whole
          c.close_as.ensures.history);
      counted = omega (arith, steps.1, more, c.loop-site.invariant.counted);
      room = omega (arith, steps.1, more, c.loop-site.invariant.room, c.push_reserved.ensures.len, c.push_reserved.ensures.capacity);
    }

pub returns-clause-cluster : goal.returns-clause-cluster
returns-clause-cluster g c =
    (closes_all
    c.nodes-nodes.result
    c.self.inside.start
    c.loop-site.books.items
    (nodes_at (into_iter_items c.loop-site.site-iterator))
    (omega (arith, c.nodes-nodes.ensures, c.into_sites-sites.ensures.count.0))
    (omega (arith, c.in-None.ensures.steps, c.loop-site.invariant.counted, length-map (into_iter_items c.loop-site.site-iterator) (λ (s : SiteState). s.node)))
    c.loop-site.invariant.closes).cluster

pub returns-clause-start : goal.returns-clause-start
returns-clause-start g c =
    (closes_all
    c.nodes-nodes.result
    c.self.inside.start
    c.loop-site.books.items
    (nodes_at (into_iter_items c.loop-site.site-iterator))
    (omega (arith, c.nodes-nodes.ensures, c.into_sites-sites.ensures.count.0))
    (omega (arith, c.in-None.ensures.steps, c.loop-site.invariant.counted, length-map (into_iter_items c.loop-site.site-iterator) (λ (s : SiteState). s.node)))
    c.loop-site.invariant.closes).start_is
    ∙ ap (λ (s : ClusterState). s.start) c.self.view_is

pub returns-clause-histories : goal.returns-clause-histories
returns-clause-histories g c =
    (closes_all
    c.nodes-nodes.result
    c.self.inside.start
    c.loop-site.books.items
    (nodes_at (into_iter_items c.loop-site.site-iterator))
    (omega (arith, c.nodes-nodes.ensures, c.into_sites-sites.ensures.count.0))
    (omega (arith, c.in-None.ensures.steps, c.loop-site.invariant.counted, length-map (into_iter_items c.loop-site.site-iterator) (λ (s : SiteState). s.node)))
    c.loop-site.invariant.closes).histories

pub returns-clause-count : goal.returns-clause-count
returns-clause-count g c =
    let all = (closes_all
    c.nodes-nodes.result
    c.self.inside.start
    c.loop-site.books.items
    (nodes_at (into_iter_items c.loop-site.site-iterator))
    (omega (arith, c.nodes-nodes.ensures, c.into_sites-sites.ensures.count.0))
    (omega (arith, c.in-None.ensures.steps, c.loop-site.invariant.counted, length-map (into_iter_items c.loop-site.site-iterator) (λ (s : SiteState). s.node)))
    c.loop-site.invariant.closes).count in
    let books = c.loop-site.books.ok.0 in
    omega (arith, books, all, c.nodes-nodes.ensures, ap (λ (s : ClusterState). s.nodes) c.self.view_is)
