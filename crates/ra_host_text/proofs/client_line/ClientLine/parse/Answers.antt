use Rattle.std.proofs.Common.{◌≡◌, codes, rules}
use Rattle.ra_host_text.proofs.Clients.{client_none, client_parts}
use Rattle.ra_host_text.proofs.client_line.ClientLine.parse.Goals as goal

pub returns-in_err-word : goal.returns-in_err-word
returns-in_err-word c =
    let other : c.args.line.now ≡ codes "status" → ⊥ = search rules in
    rw c.from_residual.ensures (client_none c.args.line.now c.in_err-word.ensures other)

pub returns : goal.returns
returns c = client_parts c.args.line.now c.in_ok-word.word.now c.in_ok-word.rest.now c.named_line_of.result c.in_ok-word.ensures c.named_line_of.ensures
