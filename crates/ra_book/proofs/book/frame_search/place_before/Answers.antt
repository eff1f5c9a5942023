use Rattle.std.proofs.Common.{ltb, ltb-true, arith, rules}
use Rattle.std.proofs.lemmas.List.Sorted.{IsPartitionPoint-from_clause, IsPartitionedBy-ltb}
use Rattle.ra_book.specs.declared.book.sent.Sent.{Sent}
use Rattle.ra_book.proofs.book.frame_search.place_before.Goals as goal

pub returns : goal.returns
returns c ascends first =
    let parted = IsPartitionedBy-ltb (λ (s : Sent). s.frame.clock) _ c.args.clock ascends in
    let point = IsPartitionPoint-from_clause (λ (s : Sent). ltb s.frame.clock c.args.clock) _ _ c.partition_point.ensures.partitioned parted (λ a r q k. search rules) in
    λ k d h. ltb-true _ _ (point.0 k d (omega arith) h)
