-- A host whose book lacks frames which another host took ends at its replay.
use Rattle.std.proofs.Common.{◌≡◌, inl, inr, ℕ, ◌<◌, Bool, true, false, cond, List, length, refl, sym, ap, ◌∙◌, subst, arith}
use Rattle.std.proofs.lemmas.Bool.{false≢true}
use Rattle.std.proofs.lemmas.List.{length-map}
use Rattle.ra_stamp.specs.NodeId.{IsNodeNumber}
use Rattle.ra_link.specs.declared.link.Link.{Link}
use Rattle.ra_link.specs.Link as link
use Rattle.ra_link.specs.Pair as pair
use Rattle.ra_link.specs.Pair.{Event as pair_events}
use Rattle.ra_link.specs.Pair.Who.{One}
use Rattle.ra_link.specs.PutBack as put_back
use Rattle.ra_book.specs.Pairs.{sent_to, come_from}
use Rattle.ra_host.specs.Host.{Host}
use Rattle.ra_host.specs.Host.{Replays as ReplaysBook}
use Rattle.ra_host.specs.Hosts.{Event, Hosts, Reaches, AreTwo}
use Rattle.ra_host.specs.Projection.{view_of, pair_of}
use Rattle.ra_host.proofs.Coded.{code_of}
use Rattle.ra_host.proofs.HostLaws.{is_other, reached_moves}
use Rattle.ra_host.proofs.Sound.{BookLaws}

goes_up : (b : Bool) (x : pair.Host) (l : Link) → (cond b (pair.silent (pair.linked x l)) (pair.silent x)).host.up ≡ x.up
goes_up true x l = refl
goes_up false x l = refl

-- a host that ends at no count is up after the replay
stays_up : (back : List pair.Packet) (x : pair.Host) → x.up ≡ true → link.replay_accuses x.link (length x.sent) ≡ false → (pair.turn back x pair_events.Replays).host.up ≡ true
stays_up back x up fine =
    ap (λ b. (cond b (pair.replays_book x) (pair.silent x)).host.up) up
    ∙ ap (λ b. (cond b (pair.ends x) (cond (link.may_replay x.link) (pair.silent (pair.linked x (link.replays x.link (length x.sent)))) (pair.silent x))).host.up) fine
    ∙ goes_up (link.may_replay x.link) x (link.replays x.link (length x.sent)) ∙ up

module _ (laws : BookLaws) (n start : ℕ) (count : IsNodeNumber n) where
  pub ends_at_replay :
      ((all : List (pair.Who × put_back.Move)) (who : pair.Who) → let p = put_back.after_moves all in
      (pair.this who p).up ≡ true → (pair.this who p).link.confirmed ≡ true → (pair.this who p).link.ready ≡ false → length (pair.this who p).sent < length (pair.other who p).taken
      → let after_it = pair.this who (pair.happens p who pair_events.Replays) in (after_it.up ≡ false) × (after_it.accused ≡ true))
      → (events : List (ℕ × Event)) (s : Hosts) → Reaches n start events s → (i j : ℕ) → AreTwo n i j
      → (s.host i).up ≡ true → ((s.host i).links j).confirmed ≡ true → ((s.host i).links j).ready ≡ false
      → length (sent_to j (s.host i).book) < length (come_from i (s.host j).book)
      → (new : Host) → ReplaysBook (s.host i) new → new.up ≡ false
  ends_at_replay law events s reaches i j two up confirmed unready lacks new is =
      elim is.new_is [
        | inl on ↦
            let h = s.host i in
            let x = view_of code_of h j in
            let m = reached_moves laws n start count code_of events s i j two false (λ e. absurd (false≢true e)) reaches in
            let sent = length-map (sent_to j h.book) code_of in
            let came = length-map (come_from i (s.host j).book) code_of in
            let down =
            subst (λ (p : pair.Pair). p.one.up ≡ true → p.one.link.confirmed ≡ true → p.one.link.ready ≡ false → length p.one.sent < length p.two.taken
            → ((pair.happens p One pair_events.Replays).one.up ≡ false) × ((pair.happens p One pair_events.Replays).one.accused ≡ true)) m.are
            (law m.moves One) up confirmed unready (omega (arith, lacks, sent, came)) in
            let fine : link.replay_accuses x.link (length x.sent) ≡ false = ap (link.replay_accuses x.link) sent ∙ on.0 j (is_other laws n start count events s reaches i j two) in
            absurd (false≢true (sym down.0 ∙ stays_up (pair_of code_of s i j).to_one x up fine))
        | inr short ↦ ap (λ (h : Host). h.up) short.3
      ]
