-- What a call that changes several surfaces of a client makes of them by their ids, from what it makes of them by their numbers.
use Rattle.std.proofs.Common.{◌≡◌, ℕ, List, [], ◌∷◌, Bool, true, false, Option, Some, None, cond, map, refl, ap, sym, subst, ◌∙◌}
use Rattle.std.specs.Prelude.{◌==◌, ◌+◌, filter, fold, not}
use Rattle.std.proofs.lemmas.Bool.{eqb-false}
use Rattle.std.proofs.lemmas.Option.{none-some, same_Some}
use Rattle.std.specs.Option.{option_map_or}
use Rattle.spec_desktop.specs.Objects.{ById, with_id}
use Rattle.wl_links.specs.Family.{Tied}
use Rattle.wl_surface.specs.FrameRequests.{frames_of}
use Rattle.wl_surface.specs.Request.{Buffer}
use Rattle.wl_surface.specs.Surface.{Surface}
use Rattle.wl_surface.specs.Applied.{AreFreed}
use Rattle.wl_surface.specs.Slots.{Slots}
use Rattle.wl_surface.specs.Surfaces.{Link, Surfaces, link_at, surface_at}
use Rattle.wl_surface.specs.Trees.{committed_in, descends_from, desynchronised_in, destroyed_in, ended_in, links_with, unlinked}
use Rattle.wl_surface.specs.Waiting.{AreWaiting, Callback, frames_at, is_in}
use Rattle.wl_surface.specs.Linked.{IsLink, Stand, numbered}
use Rattle.wl_surface.specs.Tree.{AreAmong, AreShown, is_committed, is_released}
use Rattle.law_desktop.specs.Named.{Makes, MakesBy, StandBy}
use Rattle.law_desktop.proofs.ByNames.Linking.{desynchronises-named, link-named, unlinks-named}
use Rattle.law_desktop.specs.Renaming.{has_surface, renamed, renamed_link, renamed_surface}
use Rattle.law_desktop.proofs.ByNames.Names.Done.{commits-surface, destroys-surface, desynchronises, unlinks}
use Rattle.spec_desktop.specs.Desktop.{Resident}
use Rattle.spec_desktop.specs.Framing.{AreFramed}
use Rattle.law_desktop.proofs.Soundness.Moves.{found-left}
use Rattle.law_desktop.specs.Freed.{AreFreedOf}
use Rattle.law_desktop.specs.Owning.{AreKept, by_number, number_in}
use Rattle.law_desktop.proofs.Keeping.Ids.{KeepsFraming, frames-committed, frames-desynchronised, frames-unlinked, frames-without-links, ids-committed, ids-desynchronised, ids-unlinked}
use Rattle.law_desktop.proofs.Keeping.Ids.{ids-without-links}
use Rattle.law_desktop.proofs.Keeping.Ids.{same-framing}
use Rattle.law_desktop.proofs.Keeping.OwningNames.{with_id-other}
use Rattle.law_desktop.proofs.Keeping.OwningSurfaces.{AreKept-left, AreKept-then}
use Rattle.law_desktop.proofs.Keeping.OwningTies.{committed-by, left-by, number-of-name, own, present, renaming-of, stand-by}
use Rattle.law_desktop.proofs.Keeping.OwningTrees.{frames-here, waits-here}
use Rattle.law_desktop.proofs.ByNames.Linking.{ends-one}
use Rattle.law_desktop.proofs.Keeping.Trees.{framed-many, freed-so}

-- What a call made of the surfaces of a client, where it frees these buffers and these callbacks are left.
pub record IsCalled (numbers now : ById ℕ) (slots new : Slots) (after : Tied) (r : Resident) (then : Surfaces) (left : List Callback) (freed : List ℕ) (shown : List Buffer) : Type 0 where
  pub are : AreKept now new after then
  pub frees : AreFreedOf freed shown r.owned.surfaces then
  pub framed : AreFramed slots.frames (by_number numbers r.owned.surfaces) (r.peer.requests + 1) r.callbacks → AreFramed new.frames (by_number now then) (r.peer.requests + 1) left

-- the surfaces without one are named as they were where its id names none any more
renamed-left : (id : ℕ) (numbers : ById ℕ) (ss : List Surface)
    → map (renamed_surface (number_in (with_id id None numbers))) (filter (λ s. not (s.id == id)) ss) ≡ map (renamed_surface (number_in numbers)) (filter (λ s. not (s.id == id)) ss)
renamed-left id numbers [] = refl
renamed-left id numbers (s ∷ ss) = at (s.id == id) refl (renamed-left id numbers ss)
  where
    at : (b : Bool) → (s.id == id) ≡ b
        → map (renamed_surface (number_in (with_id id None numbers))) (filter (λ s. not (s.id == id)) ss) ≡ map (renamed_surface (number_in numbers)) (filter (λ s. not (s.id == id)) ss)
        → map (renamed_surface (number_in (with_id id None numbers))) (cond (not b) (s ∷ filter (λ s. not (s.id == id)) ss) (filter (λ s. not (s.id == id)) ss))
        ≡ map (renamed_surface (number_in numbers)) (cond (not b) (s ∷ filter (λ s. not (s.id == id)) ss) (filter (λ s. not (s.id == id)) ss))
    at true e rest = rest
    at false e rest =
        ap (λ (o : Option ℕ). renamed_surface (λ i. option_map_or (λ n. n) o 0) s ∷ map (renamed_surface (number_in (with_id id None numbers))) (filter (λ s. not (s.id == id)) ss))
        (with_id-other id s.id None numbers e)
        ∙ ap (λ ts. renamed_surface (number_in numbers) s ∷ ts) rest

module _ (numbers : ById ℕ) (slots new : Slots) (tied after : Tied) (r : Resident) (is : AreKept numbers slots tied r.owned.surfaces) (id number : ℕ) (named : numbers id ≡ Some number)
    (freed : List ℕ) (shown : List Buffer) (among : AreAmong freed shown) where
  -- the surfaces under their numbers
  abbrev those : Surfaces
  those = renamed (number_in numbers) r.owned.surfaces

  stands : Stand slots tied those
  stands = (stand-by numbers slots tied r.owned.surfaces is).stands

  number-is : number_in numbers id ≡ number
  number-is = own numbers slots tied r.owned.surfaces is id number named

  here : has_surface id r.owned.surfaces ≡ true
  here = present numbers slots tied r.owned.surfaces is id number named

  -- wl_surface.commit
  pub commit-called : Makes slots tied new after (committed_in number)
      → ((all : Surfaces) (cs : List Callback) → Stand slots tied all → AreWaiting slots.frames (numbered all) cs → AreWaiting new.frames (numbered (committed_in number all)) cs)
      → ((all : Surfaces) → Stand slots tied all → AreFreed freed (numbered all) (numbered (committed_in number all)))
      → ((all : Surfaces) → Stand slots tied all → AreShown (is_committed number all) all shown)
      → IsCalled numbers numbers slots new after r (committed_in id r.owned.surfaces) r.callbacks freed shown
  commit-called makes waits frees shows =
      record {
        are = are;
        frees = freed-so numbers numbers slots new tied after r.owned.surfaces then is are made same freed shown (is_committed number those) (frees those stands) (shows those stands) among;
        framed = framed-many numbers numbers slots new tied after r.owned.surfaces then is are made same (r.peer.requests + 1) r.callbacks r.callbacks
            (λ other n t at there. let it = same-framing r.owned.surfaces then (frames-committed id r.owned.surfaces) other t there in (it.0, at, it.1, it.2))
            (waits those r.callbacks stands);
      }
    where
      then : Surfaces
      then = committed_in id r.owned.surfaces

      made : Surfaces
      made = committed_in number those

      are : AreKept numbers new after then
      are =
          AreKept-then numbers slots tied r.owned.surfaces is new after then (ids-committed id r.owned.surfaces)
          (committed-by numbers slots tied r.owned.surfaces is id number named new after makes)

      same : (renamed (number_in numbers) then).surfaces ≡ made.surfaces
      same =
          ap (λ (x : Surfaces). x.surfaces)
          ((commits-surface (number_in numbers) r.owned.surfaces (renaming-of numbers slots tied r.owned.surfaces is) id here).same ∙ ap (λ n. committed_in n those) number-is)

  -- wl_surface.destroy
  pub destroy-called : Makes slots tied new after (destroyed_in number)
      → ((all : Surfaces) (cs : List Callback) → Stand slots tied all → AreWaiting slots.frames (numbered all) cs
      → AreWaiting new.frames (numbered (destroyed_in number all)) (filter (λ c. not (is_in (frames_at (surface_at number all)) c)) cs))
      → ((all : Surfaces) → Stand slots tied all → AreFreed freed (numbered all) (numbered (destroyed_in number all)))
      → ((all : Surfaces) → Stand slots tied all → AreShown (descends_from 16 all number) all shown)
      → IsCalled numbers (with_id id None numbers) slots new after r (destroyed_in id r.owned.surfaces)
      (filter (λ c. not (is_in (frames_at (by_number numbers r.owned.surfaces number)) c)) r.callbacks) freed shown
  destroy-called makes waits frees shows =
      record {
        are = are;
        frees = freed-so numbers now slots new tied after r.owned.surfaces then is are made same freed shown (descends_from 16 those number) (frees those stands) (shows those stands) among;
        framed = framed-many numbers now slots new tied after r.owned.surfaces then is are made same (r.peer.requests + 1) r.callbacks
            (filter (λ c. not (is_in (frames_at (by_number numbers r.owned.surfaces number)) c)) r.callbacks) asked
            (λ wait. subst (λ ns. AreWaiting new.frames (numbered made) (filter (λ c. not (is_in ns c)) r.callbacks)) (frames-here numbers slots tied r.owned.surfaces is number)
            (waits those r.callbacks stands wait));
      }
    where
      now : ById ℕ
      now = with_id id None numbers

      left : Surfaces
      left = fold ended_in r.owned.surfaces (links_with id r.owned.surfaces)

      then : Surfaces
      then = destroyed_in id r.owned.surfaces

      made : Surfaces
      made = destroyed_in number those

      are : AreKept now new after then
      are =
          AreKept-left numbers slots tied r.owned.surfaces is id number named new left (ids-without-links id r.owned.surfaces) after
          (left-by numbers slots tied r.owned.surfaces is id number named new after makes)

      renames : (renamed (number_in numbers) then).surfaces ≡ made.surfaces
      renames =
          ap (λ (x : Surfaces). x.surfaces)
          ((destroys-surface (number_in numbers) r.owned.surfaces (renaming-of numbers slots tied r.owned.surfaces is) id here).same ∙ ap (λ n. destroyed_in n those) number-is)

      -- none of those left has the id that went
      same : (renamed (number_in now) then).surfaces ≡ made.surfaces
      same = renamed-left id numbers left.surfaces ∙ renames

      asked : (other n : ℕ) (t : Surface) → now other ≡ Some n → surface_at other then ≡ Some t
          → (s : Surface) × (numbers other ≡ Some n) × (surface_at other r.owned.surfaces ≡ Some s) × (frames_of s.history.requests ≡ frames_of t.history.requests)
      asked other n t at there = by (other == id) refl at
        where
          by : (b : Bool) → (other == id) ≡ b → cond b None (numbers other) ≡ Some n
              → (s : Surface) × (numbers other ≡ Some n) × (surface_at other r.owned.surfaces ≡ Some s) × (frames_of s.history.requests ≡ frames_of t.history.requests)
          by true e none = absurd (none-some n none)
          by false e some =
              let it = same-framing r.owned.surfaces left (frames-without-links id r.owned.surfaces) other t (sym (found-left id other left (eqb-false other id e)) ∙ there) in
              (it.0, some, it.1, it.2)

-- the callbacks of a surface that goes are told as they wait
pub calls-here : (numbers : ById ℕ) (slots : Slots) (tied : Tied) (all : Surfaces) → AreKept numbers slots tied all → (number : ℕ) (told : List ℕ) (cs : List Callback)
    → ((those : Surfaces) (cs : List Callback) → AreWaiting slots.frames (numbered those) cs → told ≡ map (λ (c : Callback). c.id) (filter (is_in (frames_at (surface_at number those))) cs))
    → AreWaiting slots.frames (by_number numbers all) cs → told ≡ map (λ (c : Callback). c.id) (filter (is_in (frames_at (by_number numbers all number))) cs)
calls-here numbers slots tied all is number told cs calls waits =
    calls (renamed (number_in numbers) all) cs (waits-here numbers slots tied all is slots.frames cs waits)
    ∙ ap (λ ns. map (λ (c : Callback). c.id) (filter (is_in ns) cs)) (frames-here numbers slots tied all is number)

-- ---- of a link that lives, by the number of its child

module _ (numbers : ById ℕ) (slots new : Slots) (tied after : Tied) (r : Resident) (is : AreKept numbers slots tied r.owned.surfaces) (link : Link) (below : ℕ)
    (here : link_at link.number r.owned.surfaces ≡ Some link) (lives : link.has_ended ≡ false) (named : numbers link.child ≡ Some below) (freed : List ℕ) (shown : List Buffer)
    (among : AreAmong freed shown) where
  abbrev numbered_surfaces : Surfaces
  numbered_surfaces = renamed (number_in numbers) r.owned.surfaces

  standing : StandBy (number_in numbers) slots tied r.owned.surfaces
  standing = stand-by numbers slots tied r.owned.surfaces is

  child-is : number_in numbers link.child ≡ below
  child-is = number-of-name numbers link.child below named

  its-link : IsLink numbered_surfaces link.number below (renamed_link (number_in numbers) link)
  its-link =
      subst (λ n. IsLink numbered_surfaces link.number n (renamed_link (number_in numbers) link)) child-is
      (link-named (number_in numbers) r.owned.surfaces link.number link here lives)

  by-child : (change : ℕ → Link → Surfaces → Surfaces) → MakesBy below slots tied new after change → MakesBy (number_in numbers link.child) slots tied new after change
  by-child change makes = subst (λ n. MakesBy n slots tied new after change) (sym child-is) makes

  -- What such a call makes, by what it makes of the link.
  link-called : (change : ℕ → Link → Surfaces → Surfaces) (then : Surfaces) (is_such : ℕ → Link → Surfaces → ℕ → Bool) → KeepsFraming r.owned.surfaces then → AreKept numbers new after then
      → (renamed (number_in numbers) then).surfaces ≡ (change link.number (renamed_link (number_in numbers) link) numbered_surfaces).surfaces
      → ((all : Surfaces) (number : ℕ) (l : Link) (cs : List Callback) → IsLink all number below l → Stand slots tied all → AreWaiting slots.frames (numbered all) cs
      → AreWaiting new.frames (numbered (change number l all)) cs)
      → ((all : Surfaces) (number : ℕ) (l : Link) → IsLink all number below l → Stand slots tied all → AreFreed freed (numbered all) (numbered (change number l all)))
      → ((all : Surfaces) (number : ℕ) (l : Link) → IsLink all number below l → Stand slots tied all → AreShown (is_such number l all) all shown)
      → IsCalled numbers numbers slots new after r then r.callbacks freed shown
  link-called change then is_such keeps are same waits frees shows =
      let its = renamed_link (number_in numbers) link in
      record {
        are = are;
        frees = freed-so numbers numbers slots new tied after r.owned.surfaces then is are (change link.number its numbered_surfaces) same freed shown (is_such link.number its numbered_surfaces)
            (frees numbered_surfaces link.number its its-link standing.stands) (shows numbered_surfaces link.number its its-link standing.stands) among;
        framed = framed-many numbers numbers slots new tied after r.owned.surfaces then is are (change link.number its numbered_surfaces) same (r.peer.requests + 1) r.callbacks r.callbacks
            (λ other n t at there. let it = same-framing r.owned.surfaces then keeps other t there in (it.0, at, it.1, it.2))
            (waits numbered_surfaces link.number its r.callbacks its-link standing.stands);
      }

  -- wl_subsurface.set_desync
  pub desync-called : MakesBy below slots tied new after (λ number link. desynchronised_in number)
      → ((all : Surfaces) (number : ℕ) (l : Link) (cs : List Callback) → IsLink all number below l → Stand slots tied all → AreWaiting slots.frames (numbered all) cs
      → AreWaiting new.frames (numbered (desynchronised_in number all)) cs)
      → ((all : Surfaces) (number : ℕ) (l : Link) → IsLink all number below l → Stand slots tied all → AreFreed freed (numbered all) (numbered (desynchronised_in number all)))
      → ((all : Surfaces) (number : ℕ) (l : Link) → IsLink all number below l → Stand slots tied all → AreShown (is_released number below all) all shown)
      → IsCalled numbers numbers slots new after r (desynchronised_in link.number r.owned.surfaces) r.callbacks freed shown
  desync-called makes waits frees shows =
      link-called (λ number link. desynchronised_in number) (desynchronised_in link.number r.owned.surfaces) (λ number link all. is_released number below all)
      (frames-desynchronised link.number r.owned.surfaces)
      (AreKept-then numbers slots tied r.owned.surfaces is new after (desynchronised_in link.number r.owned.surfaces) (ids-desynchronised link.number r.owned.surfaces)
      (desynchronises-named (number_in numbers) slots new tied after r.owned.surfaces link.number link here lives standing (by-child (λ number link. desynchronised_in number) makes)))
      (ap (λ (x : Surfaces). x.surfaces)
      (desynchronises (number_in numbers) r.owned.surfaces standing.renaming link.number
      (λ l f. ap (λ (m : Link). m.has_ended) (sym (same_Some link l (sym here ∙ f))) ∙ lives)).same)
      waits frees shows

  -- wl_subsurface.destroy
  pub part-called : MakesBy below slots tied new after (λ number link those. ended_in those link)
      → ((all : Surfaces) (number : ℕ) (l : Link) (cs : List Callback) → IsLink all number below l → Stand slots tied all → AreWaiting slots.frames (numbered all) cs
      → AreWaiting new.frames (numbered (ended_in all l)) cs)
      → ((all : Surfaces) (number : ℕ) (l : Link) → IsLink all number below l → Stand slots tied all → AreFreed freed (numbered all) (numbered (ended_in all l)))
      → ((all : Surfaces) (number : ℕ) (l : Link) → IsLink all number below l → Stand slots tied all → AreShown (descends_from 16 all below) all shown)
      → IsCalled numbers numbers slots new after r (unlinked link.number r.owned.surfaces) r.callbacks freed shown
  part-called makes waits frees shows =
      let ends = unlinks-named (number_in numbers) slots new tied after r.owned.surfaces link.number link here lives standing (by-child (λ number link those. ended_in those link) makes) in
      link-called (λ number link all. ended_in all link) (unlinked link.number r.owned.surfaces) (λ number link all. descends_from 16 all below)
      (frames-unlinked (Some link.number) r.owned.surfaces)
      (AreKept-then numbers slots tied r.owned.surfaces is new after (unlinked link.number r.owned.surfaces) (ids-unlinked (Some link.number) r.owned.surfaces)
      (subst (λ (x : Surfaces). StandBy (number_in numbers) new after x) (sym ends.1) ends.0))
      (ap (λ (x : Surfaces). x.surfaces)
      ((unlinks (number_in numbers) r.owned.surfaces standing.renaming link.number).same
      ∙ ends-one numbered_surfaces link.number (renamed_link (number_in numbers) link) standing.stands.hang.1.apart its-link.here lives))
      waits frees shows
