-- What the laws of links say of each two hosts.
use Rattle.std.proofs.Common.{◌≡◌, ◌≢◌, ℕ, ◌≤◌, Bool, true, false, Some, List, [], ◌∷◌, ◌++◌, length, take, refl, sym, ◌∙◌, subst}
use Rattle.std.specs.Prelude.{All, Contains}
use Rattle.std.proofs.lemmas.Bool.{false≢true}
use Rattle.ra_stamp.specs.NodeId.{IsNodeNumber}
use Rattle.ra_frame.specs.declared.frame.Frame.{Frame}
use Rattle.ra_stamp.specs.Mode.{Conflict}
use Rattle.ra_stamp.specs.declared.entry.Entry.{Entry}
use Rattle.ra_node.specs.Node.{NodeState, resource_at}
use Rattle.ra_node.specs.Resource.{holder_of}
use Rattle.ra_link.specs.Pair as pair
use Rattle.ra_link.specs.Pair.Who.{One, Two}
use Rattle.ra_link.specs.PutBack as put_back
use Rattle.ra_book.specs.Book.{BookState, HasHistory, LeadsTo}
use Rattle.ra_book.specs.Cut.{cut_books, NoMoreCame}
use Rattle.ra_book.specs.Pairs.{PairsFit, AllHasCome}
use Rattle.ra_book.specs.Settled.{IsCluster, BooksFit}
use Rattle.ra_host.specs.Host.{IsOther}
use Rattle.ra_host.specs.Hosts.{Event, Hosts, Lead, Reaches, AreReady, AreTwo, AreWhole, AllIsAcknowledged, books_of, disks_of, new_hosts, puts_back_at}
use Rattle.ra_host.specs.Projection.{pair_of}
use Rattle.ra_host.proofs.Coded.{code_of}
use Rattle.ra_host.proofs.HostBooks.{AllTaken, InOrder, all_has_come, books_fit, cluster, disks_cut, disks_fit, has_book, histories}
use Rattle.ra_host.proofs.Pairs.{Moves, Runs, moves_lead, runs_lead, sound_lead, sound_new}
use Rattle.ra_host.proofs.Sound.{BookLaws, IsSound}

-- events after events
pub leads_on : (n : ℕ) (before later : List (ℕ × Event)) (old middle new : Hosts) → Lead n old before middle → Lead n middle later new → Lead n old (before ++ later) new
leads_on n [] later old middle new first second = subst (λ (s : Hosts). Lead n s later new) first second
leads_on n (e ∷ events) later old middle new first second = (first.0, first.1, first.2, first.3, leads_on n events later first.2 middle new first.4 second)

module _ (laws : BookLaws) (n start : ℕ) (count : IsNodeNumber n) where
  -- ---- The pair that two hosts are

  pub whole_runs : (text : Frame → List ℕ) (events : List (ℕ × Event)) (s : Hosts) (i j : ℕ) → AreTwo n i j → AreWhole events → Reaches n start events s
      → Runs pair.new_pair (pair_of text s i j)
  whole_runs text events s i j two whole reaches =
      runs_lead text laws n start i j two.first.0 two.first.1 two.second.0 two.second.1 two.apart events (new_hosts n start) s (sound_new text laws n start count) whole reaches

  pub reached_moves : (text : Frame → List ℕ) (events : List (ℕ × Event)) (s : Hosts) (i j : ℕ) → AreTwo n i j → (whole : Bool) → (whole ≡ true → All (λ e. puts_back_at i e ≡ false) events)
      → Reaches n start events s → Moves whole pair.new_pair (pair_of text s i j)
  reached_moves text events s i j two whole keeps reaches =
      moves_lead text laws n start i j two.first.0 two.first.1 two.second.0 two.second.1 two.apart events (new_hosts n start) s whole keeps (sound_new text laws n start count) reaches

  pub sound_at : (events : List (ℕ × Event)) (s : Hosts) → Reaches n start events s → (i : ℕ) → 1 ≤ i → i ≤ n → IsSound n start i (s.host i)
  sound_at events s reaches = sound_lead code_of laws n start events (new_hosts n start) s (sound_new code_of laws n start count) reaches

  -- from one state to a later one, in which no book is put back meanwhile
  pub later_runs : (text : Frame → List ℕ) (before later : List (ℕ × Event)) (middle s : Hosts) (i j : ℕ) → AreTwo n i j → AreWhole later → Reaches n start before middle → Lead n middle later s
      → Runs (pair_of text middle i j) (pair_of text s i j)
  later_runs text before later middle s i j two whole reaches lead =
      runs_lead text laws n start i j two.first.0 two.first.1 two.second.0 two.second.1 two.apart later middle s (sound_at before middle reaches) whole lead

  -- the other host, as this one sees it
  pub is_other : (events : List (ℕ × Event)) (s : Hosts) → Reaches n start events s → (i j : ℕ) → AreTwo n i j → IsOther (s.host i) j
  is_other events s reaches i j two =
      let sound = sound_at events s reaches i two.first.0 two.first.1 in
      record { first = two.second.0; last = subst (λ (m : ℕ). j ≤ m) (sym sound.nodes) two.second.1; other = λ e. two.apart (sym (e ∙ sound.me)) }

  other_way : (i j : ℕ) → AreTwo n i j → AreTwo n j i
  other_way i j two = record { first = two.second; second = two.first; apart = λ same. two.apart (sym same) }

  -- ---- No book was put back

  pub whole_in_order :
      ((events : List (pair.Who × pair.Event)) (who : pair.Who) → let p = pair.after events in pair.IsPrefixOf (pair.this who p).taken (take (pair.other who p).sent_kept (pair.other who p).sent))
      → ((events : List (pair.Who × pair.Event)) (who : pair.Who) → let p = pair.after events in
      pair.IsPrefixOf (take (pair.this who p).taken_kept (pair.this who p).taken) (take (pair.other who p).sent_kept (pair.other who p).sent))
      → (events : List (ℕ × Event)) (s : Hosts) → AreWhole events → Reaches n start events s → (i j : ℕ) → AreTwo n i j → InOrder s i j
  whole_in_order taken kept events s whole reaches i j two =
      let r = whole_runs code_of events s i j two whole reaches in
      record {
        taken = subst (λ (p : pair.Pair). pair.IsPrefixOf p.one.taken (take p.two.sent_kept p.two.sent)) r.are (taken r.events One);
        kept = subst (λ (p : pair.Pair). pair.IsPrefixOf (take p.one.taken_kept p.one.taken) (take p.two.sent_kept p.two.sent)) r.are (kept r.events One);
      }

  -- ---- Books were put back, and then all hosts were ready

  pub later_in_order :
      ((all : List (pair.Who × put_back.Move)) (events : List (pair.Who × pair.Event)) (who : pair.Who) → let p = put_back.after_moves all in
      (pair.this who p).up ≡ true → (pair.this who p).link.ready ≡ true → let q = pair.run p events in pair.IsPrefixOf (pair.other who q).taken (take (pair.this who q).sent_kept (pair.this who q).sent))
      → ((all : List (pair.Who × put_back.Move)) (events : List (pair.Who × pair.Event)) (who : pair.Who) → let p = put_back.after_moves all in
      (pair.this who p).up ≡ true → (pair.this who p).link.ready ≡ true → let q = pair.run p events in
      pair.IsPrefixOf (take (pair.other who q).taken_kept (pair.other who q).taken) (take (pair.this who q).sent_kept (pair.this who q).sent))
      → (before later : List (ℕ × Event)) (middle s : Hosts) → Reaches n start before middle → AreReady n middle → AreWhole later → Lead n middle later s → (i j : ℕ) → AreTwo n i j → InOrder s i j
  later_in_order taken kept before later middle s reaches ready whole lead i j two =
      let m = reached_moves code_of before middle i j two false (λ e. absurd (false≢true e)) reaches in
      let r = later_runs code_of before later middle s i j two whole reaches lead in
      let is = ready j two.second.0 two.second.1 in
      let linked = is.ready i (is_other before middle reaches j i (other_way i j two)) in
      record {
        taken =
            subst (λ (q : pair.Pair). pair.IsPrefixOf q.one.taken (take q.two.sent_kept q.two.sent)) r.are
            (subst (λ (p : pair.Pair). p.two.up ≡ true → p.two.link.ready ≡ true → let q = pair.run p r.events in pair.IsPrefixOf q.one.taken (take q.two.sent_kept q.two.sent)) m.are
            (taken m.moves r.events Two) is.up linked);
        kept =
            subst (λ (q : pair.Pair). pair.IsPrefixOf (take q.one.taken_kept q.one.taken) (take q.two.sent_kept q.two.sent)) r.are
            (subst (λ (p : pair.Pair). p.two.up ≡ true → p.two.link.ready ≡ true → let q = pair.run p r.events in pair.IsPrefixOf (take q.one.taken_kept q.one.taken) (take q.two.sent_kept q.two.sent)) m.are
            (kept m.moves r.events Two) is.up linked);
      }

  pub acknowledged_taken :
      ((all : List (pair.Who × put_back.Move)) (who : pair.Who) → let p = put_back.after_moves all in
      (pair.this who p).up ≡ true → (pair.this who p).link.ready ≡ true → (pair.other who p).up ≡ true → (pair.other who p).link.ready ≡ true
      → (pair.this who p).link.acknowledged ≡ (pair.this who p).link.made
      → ((pair.other who p).taken ≡ (pair.this who p).sent) × ((pair.other who p).taken_kept ≡ length (pair.other who p).taken) × ((pair.this who p).sent_kept ≡ length (pair.this who p).sent))
      → (events : List (ℕ × Event)) (s : Hosts) → Reaches n start events s → AllIsAcknowledged n s → (i j : ℕ) → AreTwo n i j → AllTaken s i j
  acknowledged_taken settled events s reaches all i j two =
      let m = reached_moves code_of events s i j two false (λ e. absurd (false≢true e)) reaches in
      let here = all.ready i two.first.0 two.first.1 in
      let there = all.ready j two.second.0 two.second.1 in
      let see = is_other events s reaches i j two in
      let seen = is_other events s reaches j i (other_way i j two) in
      let is =
      subst (λ (p : pair.Pair). p.two.up ≡ true → p.two.link.ready ≡ true → p.one.up ≡ true → p.one.link.ready ≡ true → p.two.link.acknowledged ≡ p.two.link.made
      → (p.one.taken ≡ p.two.sent) × (p.one.taken_kept ≡ length p.one.taken) × (p.two.sent_kept ≡ length p.two.sent)) m.are
      (settled m.moves Two) there.up (there.ready i seen) here.up (here.ready j see) (all.acknowledged j two.second.0 two.second.1 i seen) in
      record { taken = is.0; taken_kept = is.1; sent_kept = is.2 }

  pub never_accused :
      ((all : List (pair.Who × put_back.Move)) (who : pair.Who) → All (λ m. put_back.is_put_back who m.0 m.1 ≡ false) all → (pair.this who (put_back.after_moves all)).accused ≡ false)
      → (events : List (ℕ × Event)) (s : Hosts) → Reaches n start events s → (i j : ℕ) → AreTwo n i j → All (λ e. puts_back_at i e ≡ false) events → (s.host i).accused j ≡ false
  never_accused law events s reaches i j two whole =
      let m = reached_moves code_of events s i j two true (λ _. whole) reaches in
      subst (λ (p : pair.Pair). p.one.accused ≡ false) m.are (law m.moves One (m.keeps refl))

  -- ---- The laws

  some : 1 ≤ n
  some = count.0

  pub books_in_cluster : (events : List (ℕ × Event)) (s : Hosts) → Reaches n start events s → IsCluster (books_of n s) × All HasHistory (books_of n s)
  books_in_cluster events s reaches =
      let sound = sound_at events s reaches in
      (cluster laws n start some s sound, histories laws n start some s sound)

  module _ (cut_cluster : (counts : ℕ → ℕ) (books : List BookState) → IsCluster books → IsCluster (cut_books counts books))
      (cut_histories : (counts : ℕ → ℕ) (books : List BookState) → IsCluster books → All HasHistory books → All HasHistory (cut_books counts books)) where
    pub disks_in_cluster : (events : List (ℕ × Event)) (s : Hosts) → Reaches n start events s → IsCluster (disks_of n s) × All HasHistory (disks_of n s)
    disks_in_cluster events s reaches =
        let sound = sound_at events s reaches in
        let both = books_in_cluster events s reaches in
        let kept : ℕ → ℕ = λ i. (s.host i).kept in
        subst (λ (books : List BookState). IsCluster books × All HasHistory books) (disks_cut laws n start some s sound)
        (cut_cluster kept (books_of n s) both.0, cut_histories kept (books_of n s) both.0 both.1)

  -- if each two hosts took frames once and in order
  abbrev pub AreInOrder : Hosts → Type 0
  AreInOrder s = (i j : ℕ) → AreTwo n i j → InOrder s i j

  each_two : (s : Hosts) → AreInOrder s → (to from : ℕ) → 1 ≤ to → to ≤ n → 1 ≤ from → from ≤ n → to ≢ from → InOrder s to from
  each_two s in_order to from low high first last differ = in_order to from (record { first = (low, high); second = (first, last); apart = differ })

  pub pairs_fit : (events : List (ℕ × Event)) (s : Hosts) → Reaches n start events s → AreInOrder s → PairsFit (books_of n s)
  pairs_fit events s reaches in_order = books_fit laws n start some s (sound_at events s reaches) (each_two s in_order)

  pub disk_pairs_fit :
      ((counts : ℕ → ℕ) (books : List BookState) → IsCluster books → All HasHistory books → PairsFit books → NoMoreCame (cut_books counts books) → PairsFit (cut_books counts books))
      → (events : List (ℕ × Event)) (s : Hosts) → Reaches n start events s → AreInOrder s → PairsFit (disks_of n s)
  disk_pairs_fit cut_pairs events s reaches in_order = disks_fit laws n start some s (sound_at events s reaches) (each_two s in_order) cut_pairs

  pub disks_have_come : (events : List (ℕ × Event)) (s : Hosts) → Reaches n start events s → ((i j : ℕ) → AreTwo n i j → AllTaken s i j) → AllHasCome (disks_of n s)
  disks_have_come events s reaches all =
      all_has_come laws n start some s (sound_at events s reaches)
      (λ to from low high first last differ. all to from (record { first = (low, high); second = (first, last); apart = differ }))

  pub never_conflict :
      ((books : List BookState) (a b : BookState) (left right : NodeState) (name : List ℕ) (x y : Entry) → IsCluster books → All HasHistory books → BooksFit books
      → Contains books a → Contains books b → a.me ≢ b.me → LeadsTo a left → LeadsTo b right
      → holder_of (resource_at left name) ≡ Some x → holder_of (resource_at right name) ≡ Some y → Conflict x.mode y.mode → ⊥)
      → (events : List (ℕ × Event)) (s : Hosts) → Reaches n start events s → BooksFit (books_of n s) → (i j : ℕ) (left right : NodeState) (name : List ℕ) (x y : Entry) → AreTwo n i j
      → LeadsTo (s.host i).book left → LeadsTo (s.host j).book right
      → holder_of (resource_at left name) ≡ Some x → holder_of (resource_at right name) ≡ Some y → Conflict x.mode y.mode → ⊥
  never_conflict law events s reaches fit i j left right name x y two to_left to_right holds_left holds_right =
      let sound = sound_at events s reaches in
      let both = books_in_cluster events s reaches in
      let me = (sound i two.first.0 two.first.1).me in
      let other = (sound j two.second.0 two.second.1).me in
      law (books_of n s) (s.host i).book (s.host j).book left right name x y both.0 both.1 fit
      (has_book laws n start some s sound i two.first.0 two.first.1) (has_book laws n start some s sound j two.second.0 two.second.1)
      (λ same. two.apart (sym me ∙ same ∙ other)) to_left to_right holds_left holds_right
