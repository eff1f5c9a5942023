use Rattle.std.proofs.Common.{◌≡◌, ◌+◌, ◌-◌, ◌<◌, List, length, drop, Option, Some, None, subst, arith}
use Rattle.std.specs.Prelude.{All, IfSome, MatchOption}
use Rattle.std.specs.List.{IsFirstAndRest}
use Rattle.std.proofs.lemmas.List.Elements.{All-tail, All-take, All-drop}
use Rattle.ra_frame.specs.declared.frame.Frame.{Frame}
use Rattle.ra_frame.specs.Fits.{Fits}
use Rattle.ra_site.proofs.post.Post.send_up_to.Goals as goal

module _ {P : Type 0} (first : P → Frame) (rest : P → List Frame) (frames : List Frame) where
  fewer : (found : Option P) → MatchOption found (length frames ≡ 0) (λ p. IsFirstAndRest frames (first p) (rest p))
      → IfSome found (λ p. length (rest p) < length frames)
  fewer None is = tt
  fewer (Some p) is = omega (arith, is.1)

  fit : (found : Option P) → All Fits frames → MatchOption found (length frames ≡ 0) (λ p. IsFirstAndRest frames (first p) (rest p))
      → IfSome found (λ p. All Fits (rest p))
  fit None all is = tt
  fit (Some p) all is = All-tail Fits (first p) (rest p) (subst (λ (fs : List Frame). All Fits fs) is.0 all)

-- ---- The post is closed

pub returns-in_default : goal.returns-in_default
returns-in_default g c =
    let frames = c.args.frames.now in
    record {
      fewer = fewer (λ p. p.0.now) (λ p. p.1.now) frames c.split_first.result c.split_first.ensures.cases;
      fit = fit (λ p. p.0.now) (λ p. p.1.now) frames c.split_first.result c.requires c.split_first.ensures.cases;
    }

-- ---- A frame is refused

pub returns-then-not-is_sent-clause-fit : goal.returns-then-not-is_sent-clause-fit
returns-then-not-is_sent-clause-fit g c =
    let frames = c.args.frames.now in
    let next = c.loop-place.place + 1 in
    All-take Fits (length frames - next) (drop next frames) (All-drop Fits next frames c.requires)
