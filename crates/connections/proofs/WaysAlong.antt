-- One pass along the links finds the way into each event that can be reached, and the first one.
use Rattle.plan_num.proofs.Common.{◌≡◌, ◌≢◌, ◌∙◌, ℕ, ℤ, ◌<◌, ◌≤◌, ◌⊎◌, inl, inr, nat_le, true}
use Rattle.plan_num.proofs.Common.{false, List, [], ◌∷◌, length, map, get_or, slice_get, slice_set}
use Rattle.plan_num.proofs.Common.{All, Some, None, refl, ap, sym, subst, arith, and_from}
use Rattle.plan_num.proofs.Common.{both_ways, cond_both, eqb-false, eqb-true, le-leb, leb-true}
use Rattle.plan_num.proofs.Common.{cases_Bool, Decides-eqb, get_or-map, get_or-set_other}
use Rattle.plan_num.proofs.Common.{get_or-set_same, get_or_past, length-map, length-set}
use Rattle.plan_num.proofs.Common.{All-contains, All-cons, All-head, All-tail}
use Rattle.plan_num.proofs.Common.{any_passes_from_place, get_or_from_slice_get, slice_get_cases}
use Rattle.plan_num.proofs.Common.{slice_get_within}
use Rattle.connections.specs.declared.connection.Connection.{Connection}
use Rattle.connections.specs.declared.links.Link.{Link}
use Rattle.connections.specs.declared.timed_event.TimedEvent.{TimedEvent}
use Rattle.connections.specs.declared.way.Way.{Way}
use Rattle.connections.specs.declared.way.Way.TheVariants as way
use Rattle.connections.specs.Nets.{IsConnection, JourneyParts}
use Rattle.connections.specs.Journeys.{IsReached, leads}
use Rattle.connections.specs.Links.{AreLinks, IsInTurn}
use Rattle.connections.specs.Ways.{AreWays, IsWay, first_way, go_by, is_by, is_reached, lesser, or_by, way_at}
use Rattle.connections.specs.Ways.{ways_along}
use Rattle.connections.proofs.Answers.{goes_on}
use Rattle.connections.proofs.FollowedRides.{turn_tail}

-- ---- what one link does to the way into its head

lesser_second : (a b : ℕ) → lesser a b ≤ b
lesser_second a b = cond_both (nat_le a b) a b (λ n. n ≤ b) (λ is. leb-true a b is)
    (λ fails. omega arith)

-- the way is no later than the link
is_by_it : (w : Way) (index : ℕ) → is_by index (or_by w index) ≡ true
is_by_it way.Unreached index = le-leb index index (omega arith)
is_by_it way.Start index = refl
is_by_it (way.By other) index = le-leb (lesser other index) index (lesser_second other index)

-- nor later than it was
is_by_still : (w : Way) (index place : ℕ) → is_by place w ≡ true → is_by place (or_by w index)
    ≡ true
is_by_still way.Unreached index place is = absurd (both_ways false refl is)
is_by_still way.Start index place is = refl
is_by_still (way.By other) index place is = grind arith

-- where a way is no later, the event can be reached
pub by_reached : (w : Way) (place : ℕ) → is_by place w ≡ true → is_reached w ≡ true
by_reached way.Unreached place is = absurd (both_ways false refl is)
by_reached way.Start place is = refl
by_reached (way.By other) place is = refl

-- ---- what a pass keeps

-- links between so many events
abbrev Joins : ℕ → Link → Type 0
Joins n link = (link.from < n) × (link.to < n)

-- a link goes by, or it does nothing
by_link : (P : List Way → Type 0) (ways : List Way) (link : Link)
    → (is_reached (way_at ways link.from) ≡ true
    → P (slice_set ways link.to (or_by (way_at ways link.to) link.index)))
    → (is_reached (way_at ways link.from) ≡ false → P ways) → P (go_by ways link)
by_link P ways link goes stays = grind arith

-- what holds of the way into an event before a link, and is kept where the link leads to it
at_event : (Q : Way → Type 0) (ways : List Way) (link : Link) (event : ℕ)
    → Joins (length ways) link → Q (way_at ways event)
    → (link.to ≡ event → is_reached (way_at ways link.from) ≡ true
    → Q (or_by (way_at ways link.to) link.index)) → Q (way_at (go_by ways link) event)
at_event Q ways link event joins old new =
    by_link (λ all. Q (way_at all event)) ways link
    (λ goes. let put = or_by (way_at ways link.to) link.index in grind (
      arith,
      cases_Bool,
      eqb-true,
      slice_set,
      get_or-set_same,
      get_or-set_other,
      eqb-false,
    ))
    (λ stays. old)

each_kept : (ways : List Way) (link : Link) → length (go_by ways link) ≡ length ways
each_kept ways link =
    by_link (λ all. length all ≡ length ways) ways link
    (λ goes. length-set ways link.to (or_by (way_at ways link.to) link.index)) (λ stays. refl)

joins_still : (ways : List Way) (link : Link) (links : List Link)
    → All (Joins (length ways)) (link ∷ links) → All (Joins (length (go_by ways link))) links
joins_still ways link links joins =
    subst (λ n. All (Joins n) links) (sym (each_kept ways link))
    (All-tail (Joins (length ways)) link links joins)

pub long : (links : List Link) (ways : List Way) → length (ways_along links ways) ≡ length ways
long [] ways = refl
long (link ∷ links) ways = long links (go_by ways link) ∙ each_kept ways link

-- what each link keeps of the way into an event
kept : (Q : Way → Type 0) (event : ℕ) → ((w : Way) (index : ℕ) → Q w → Q (or_by w index))
    → (links : List Link) (ways : List Way) → All (Joins (length ways)) links
    → Q (way_at ways event) → Q (way_at (ways_along links ways) event)
kept Q event keeps [] ways joins old = old
kept Q event keeps (link ∷ links) ways joins old =
    kept Q event keeps links (go_by ways link) (joins_still ways link links joins)
    (at_event Q ways link event (All-head (Joins (length ways)) link links joins) old
    (λ same goes. keeps (way_at ways link.to) link.index
    (subst (λ e. Q (way_at ways e)) (sym same) old)))

-- the way into an event to which no link leads
stays : (links : List Link) (ways : List Way) (event : ℕ) → All (Joins (length ways)) links
    → All (λ link. link.to ≢ event) links
    → way_at (ways_along links ways) event ≡ way_at ways event
stays [] ways event joins apart = refl
stays (link ∷ links) ways event joins apart =
    stays links (go_by ways link) event (joins_still ways link links joins)
    (All-tail (λ link. link.to ≢ event) link links apart)
    ∙ at_event (λ w. w ≡ way_at ways event) ways link event
    (All-head (Joins (length ways)) link links joins) refl
    (λ same goes. absurd (All-head (λ link. link.to ≢ event) link links apart same))

-- ---- each link holds in the end

-- no link leads to the tail of the first one
apart : (link : Link) (links : List Link) → IsInTurn (link ∷ links)
    → All (λ other. other.to ≢ link.from) (link ∷ links)
apart link links turn k d inside same = turn 0 k d (omega arith) inside same

pub closed : (links : List Link) (ways : List Way) → IsInTurn links
    → All (Joins (length ways)) links
    → All (λ link. is_reached (way_at (ways_along links ways) link.from) ≡ true
    → is_by link.index (way_at (ways_along links ways) link.to) ≡ true) links
closed [] ways turn joins = grind arith
closed (link ∷ links) ways turn joins =
    let new = go_by ways link in
    let end = ways_along links new in
    All-cons (λ link. is_reached (way_at end link.from) ≡ true
    → is_by link.index (way_at end link.to) ≡ true) link links
    (λ reached. kept (λ w. is_by link.index w ≡ true) link.to
    (λ w index is. is_by_still w index link.index is) links new
    (joins_still ways link links joins)
    (first (sym
    (ap is_reached (stays (link ∷ links) ways link.from joins (apart link links turn))) ∙ reached)))
    (closed links new (turn_tail link links turn) (joins_still ways link links joins))
  where
    first : is_reached (way_at ways link.from) ≡ true
        → is_by link.index (way_at (go_by ways link) link.to) ≡ true
    first reached =
        by_link (λ all. is_by link.index (way_at all link.to) ≡ true) ways link
        (λ goes. ap (is_by link.index) (get_or-set_same ways link.to
        (or_by (way_at ways link.to) link.index) way.Unreached
        (All-head (Joins (length ways)) link links joins).1)
        ∙ is_by_it (way_at ways link.to) link.index)
        (λ fails. absurd (both_ways (is_reached (way_at ways link.from)) fails reached))

-- ---- each way leads into its event

module _ (net : JourneyParts) (sound : All (IsConnection net) net.connections)
    (from start : ℤ) where
  abbrev Leads : ℕ → Way → Type 0
  Leads event w = IsWay net from start event w

  pub reached_by_way : (event : ℕ) (w : Way) → Leads event w → is_reached w ≡ true
      → IsReached net from start event
  reached_by_way event way.Unreached known is = absurd (both_ways false refl is)
  reached_by_way event way.Start known is =
      record { ride = event ∷ []; begin = known; joined = refl; end = refl }
  reached_by_way event (way.By connection) known is =
      grind (arith, goes_on, any_passes_from_place, and_from, Decides-eqb)

  -- before any link
  first_leads : (event : ℕ)
      → Leads event (way_at (map (first_way from start) net.events) event)
  first_leads event = by (slice_get_cases net.events event).1
    where
      by : ((x : TimedEvent) × (event < length net.events)
          × (slice_get net.events event ≡ Some x) × (get_or net.events event x ≡ x))
          ⊎ ((length net.events ≤ event) × (slice_get net.events event ≡ None))
          → Leads event (way_at (map (first_way from start) net.events) event)
      by (inl found) = grind (arith, get_or-map)
      by (inr past) = grind (arith, get_or_past, length-map)

  module _ (link : Link)
      (is : slice_get net.connections link.index ≡ Some (record { from = link.from; to = link.to }))
    where
      put_leads : (w : Way) → Leads link.to w → IsReached net from start link.from
          → Leads link.to (or_by w link.index)
      put_leads way.Unreached leads reached =
          record { tail = link.from; is = is; reached = reached; no_start = leads }
      put_leads way.Start leads reached = leads
      put_leads (way.By other) leads reached = grind arith

      step_leads : (ways : List Way) → Joins (length ways) link
          → ((event : ℕ) → Leads event (way_at ways event))
          → (event : ℕ) → Leads event (way_at (go_by ways link) event)
      step_leads ways joins leads event =
          at_event (Leads event) ways link event joins (leads event)
          (λ same goes. subst (λ e. Leads e (or_by (way_at ways link.to) link.index)) same
          (put_leads (way_at ways link.to) (leads link.to)
          (reached_by_way link.from (way_at ways link.from) (leads link.from) goes)))

  all_lead : (links : List Link) (ways : List Way) → All (Joins (length ways)) links
      → All (λ link. slice_get net.connections link.index
      ≡ Some (record { from = link.from; to = link.to })) links
      → ((event : ℕ) → Leads event (way_at ways event))
      → (event : ℕ) → Leads event (way_at (ways_along links ways) event)
  all_lead [] ways joins are leads = leads
  all_lead (link ∷ links) ways joins are leads =
      let There = λ (link : Link). slice_get net.connections link.index
      ≡ Some (record { from = link.from; to = link.to }) in grind (
        arith,
        joins_still,
        All-tail,
        step_leads,
        All-head,
        all_lead links (go_by ways link) (joins_still ways link links joins)
            (All-tail There link links are) (step_leads link (All-head There link links are) ways
            (All-head (Joins (length ways)) link links joins) leads),
      )

  module _ (links : List Link) (are : AreLinks net.connections links) where
    abbrev first_ways : List Way
    first_ways = map (first_way from start) net.events

    pub links_join : (n : ℕ) → n ≡ length net.events → All (Joins n) links
    links_join n same k d inside =
        let link = get_or links k d in
        let there : Connection = record { from = link.from; to = link.to } in
        let is = are.of k d inside in
        let found : get_or net.connections link.index there ≡ there
        = get_or_from_slice_get net.connections link.index there there is in
        let joins = sound link.index there (slice_get_within net.connections link.index there is) in
        let from_there : link.from < length net.events
        = subst (λ (at : Connection). at.from < length net.events) found joins.from in
        let to_there : link.to < length net.events
        = subst (λ (at : Connection). at.to < length net.events) found joins.to in
        (omega (arith, from_there, same), omega (arith, to_there, same))

    pub ways_found : AreWays net from start (ways_along links first_ways)
    ways_found =
        grind (arith, links_join, length-map, long, all_lead, first_leads, closed, All-contains)
