use Rattle.std.proofs.Common.{[], ◌∷◌, ◌++◌, List, refl, sym, ap, subst, ◌∙◌, arith}
use Rattle.ra_book.specs.Book.{BookState, HasHistory}
use Rattle.std.proofs.lemmas.Bool.{false≢true}
use Rattle.std.proofs.lemmas.List.Quantifiers.{Any-push}
use Rattle.ra_book_text.specs.Texts.{IsBeside}
use Rattle.ra_book_text.proofs.Last.{room_for_two, with_last}
use Rattle.ra_book_text.proofs.text_settling.gathering.Gathered.open.Goals as goal

pub returns-then-not-is_beside : goal.returns-then-not-is_beside
returns-then-not-is_beside c line is =
    let first = c.args.first.now in (
      first.version,
      first.member.node,
      first.member.nodes,
      first.start,
      is,
      Any-push (λ book. IsBeside first.member.node first.member.nodes first.start book → ⊥) c.args.self.now.earlier.items c.args.self.now.last
          (λ beside. false≢true (sym c.if-not-is_beside.true ∙ c.is_beside.ensures.1 beside)),
    )

pub returns-then-not-are_beside : goal.returns-then-not-are_beside
returns-then-not-are_beside c line is =
    let first = c.args.first.now in
    let each = with_last (IsBeside first.member.node first.member.nodes first.start) c.args.self.now.earlier.items c.args.self.now.last c.are_beside.result
    (c.is_beside.ensures.0 c.if-not-is_beside.false) (rw c.deref.ensures.value at c.are_beside.ensures) in
    (first.version, first.member.node, first.member.nodes, first.start, is, rw c.if-not-are_beside.true at each)

pub returns-then-is_err : goal.returns-then-is_err
returns-then-is_err c line is = record {
  version = c.args.first.now.version;
  node = c.args.first.now.member.node;
  nodes = c.args.first.now.member.nodes;
  start = c.args.first.now.start;
  is_first = is;
  beside =
      rw c.if-not-are_beside.false at (with_last (IsBeside c.args.first.now.member.node c.args.first.now.member.nodes c.args.first.now.start)
      c.args.self.now.earlier.items c.args.self.now.last c.are_beside.result (c.is_beside.ensures.0 c.if-not-is_beside.false)
      (rw c.deref.ensures.value at c.are_beside.ensures));
}

pub push_reserved-requires : goal.push_reserved-requires
push_reserved-requires c = omega (arith, room_for_two c.reserve.result _ _ (sym c.is_err.ensures.value ∙ c.if-is_err.false) c.reserve.ensures.ok)

pub returns : goal.returns
returns c line is = record {
  version = c.args.first.now.version;
  node = c.args.first.now.member.node;
  nodes = c.args.first.now.member.nodes;
  start = c.args.first.now.start;
  is_first = is;
  beside =
      rw c.if-not-are_beside.false at (with_last (IsBeside c.args.first.now.member.node c.args.first.now.member.nodes c.args.first.now.start)
      c.args.self.now.earlier.items c.args.self.now.last c.are_beside.result (c.is_beside.ensures.0 c.if-not-is_beside.false)
      (rw c.deref.ensures.value at c.are_beside.ensures));
  earlier_is =
      c.push_reserved.ensures.items ∙ ap (λ (bs : List BookState). bs ++ c.replace-earlier.result ∷ []) c.reserve.ensures.items
      ∙ ap (λ (b : BookState). c.args.self.now.earlier.items ++ b ∷ []) c.replace-earlier.ensures.value;
  last_is = c.replace-earlier.ensures.after ∙ c.of-book.ensures.value;
  version_is = refl;
  came_is = refl;
  history = subst HasHistory (sym c.replace-earlier.ensures.after) c.of-book.ensures.history;
  room =
      omega (
        arith,
        room_for_two c.reserve.result _ _ (sym c.is_err.ensures.value ∙ c.if-is_err.false) c.reserve.ensures.ok,
        c.push_reserved.ensures.len,
        c.push_reserved.ensures.capacity,
      );
}
