-- Stores of buffers that are over: a request that leaves a surface its buffers lets none go.
use Rattle.std.proofs.Common.{◌≡◌, ℕ, ◌≤◌, List, ◌++◌, Bool, true, false, Option, Some, cond, length, refl, ap, subst, sym, ◌∙◌}
use Rattle.std.specs.Prelude.{◌==◌, ◌&&◌, ◌||◌, not, fold, map}
use Rattle.spec_desktop.specs.Buffers.{Buffer as Made}
use Rattle.spec_desktop.specs.Peer.{released}
use Rattle.wl_store.specs.Stores.{Stock}
use Rattle.wl_surface.specs.Request.{Buffer, Request}
use Rattle.wl_surface.specs.State.{History, Values, applied, asked, committed, held, is_commit, pending, values}
use Rattle.wl_surface.specs.Surface.{Surface, asking, buffers_of, has, listed, names, shows}
use Rattle.wl_surface.specs.Surfaces.{history_in, is_used, surface_at}
use Rattle.wl_surface.proofs.Records.{applied-kept, held-kept, values-asked}
use Rattle.spec_desktop.specs.Desktop.{Resident}
use Rattle.spec_desktop.specs.Step.{after_surface, asked_of, buffers_had, each_once, is_number, is_over, letting_go, with_peer}
use Rattle.std.specs.Option.{option_map}
use Rattle.law_desktop.proofs.Lists.Keys.{found-any, found-map, found-passes}
use Rattle.law_desktop.proofs.Truth.{and-false, or-true}
use Rattle.law_desktop.proofs.Lists.Each.{Each, each-append, each-map}
use Rattle.law_desktop.proofs.Lists.Left.{filter-none-each}
use Rattle.law_desktop.proofs.KeptRecords.Keeping.Letting.{each-once, listed-each, named-so}

-- where none of them is over, no store goes
pub letting-none : (bs : List Buffer) (r : Resident) → Each (λ b. is_over r b ≡ false) bs → letting_go bs r ≡ r
letting-none bs r none =
    ap (λ (over : List Buffer). with_peer (record r.peer { stores = fold (λ (stores : Stock) b. released b.store stores) r.peer.stores over }) r)
    (filter-none-each (is_over r) (each_once bs) (each-once (λ b. is_over r b ≡ false) bs none))

-- a buffer that is used isn't over
pub used-stays : (r : Resident) (b : Buffer) → is_used b.number r.owned.surfaces ≡ true → is_over r b ≡ false
used-stays r b used =
    let free = not (is_number b.number (option_map (λ (made : Made). made.number) (r.peer.buffers b.object))) in
    ap (λ u. free && not u) used ∙ and-false free

-- ---- the buffers of a surface

-- it has each of them
pub had-each : (h : History) → Each (λ b. has b.number h ≡ true) (buffers_of h)
had-each h =
    each-append Had (listed (pending h).buffer ++ listed (held h).buffer) (listed (applied h).buffer)
    (each-append Had (listed (pending h).buffer) (listed (held h).buffer)
    (listed-each Had (pending h).buffer (λ b e. ap (λ x. x || shows b.number h) (ap (names b.number) e ∙ named-so b)))
    (listed-each Had (held h).buffer (λ b e. ap (λ x. names b.number (pending h).buffer || (names b.number (applied h).buffer || x)) (ap (names b.number) e ∙ named-so b)
    ∙ ap (λ x. names b.number (pending h).buffer || x) (or-true (names b.number (applied h).buffer)) ∙ or-true (names b.number (pending h).buffer))))
    (listed-each Had (applied h).buffer (λ b e. ap (λ x. names b.number (pending h).buffer || (x || names b.number (held h).buffer)) (ap (names b.number) e ∙ named-so b)
    ∙ or-true (names b.number (pending h).buffer)))
  where
    Had : Buffer → Type 0
    Had b = has b.number h ≡ true

-- a request that is no commit and attaches nothing leaves it all of them
module _ (r : Request) (plain : is_commit r ≡ false) (keeps : (v : Values) → (asked v r).buffer ≡ v.buffer) where
  still-has : (n : ℕ) (s : Surface) → s.history.cut ≤ committed s.history.requests → committed s.history.requests ≤ length s.history.requests → has n (asking r s).history ≡ has n s.history
  still-has n s cut within =
      ap (λ o. names n o || shows n (asking r s).history) (ap (λ (v : Values). v.buffer) (values-asked s.history.requests r) ∙ keeps (values s.history.requests))
      ∙ ap (λ (rs : List Request). names n (pending s.history).buffer || (names n (values rs).buffer || names n (held (asking r s).history).buffer)) (applied-kept s.history r cut within)
      ∙ ap (λ (rs : List Request). names n (pending s.history).buffer || (names n (applied s.history).buffer || names n (values rs).buffer)) (held-kept s.history.requests r plain within)

  -- so none of them is over
  pub asked-keeps : (id : ℕ) (q : Resident) (s : Surface) → surface_at id q.owned.surfaces ≡ Some s → s.history.cut ≤ committed s.history.requests
      → committed s.history.requests ≤ length s.history.requests → after_surface id q (asked_of id r q) ≡ asked_of id r q
  asked-keeps id q s there cut within =
      letting-none (buffers_had (history_in id q.owned.surfaces)) (asked_of id r q)
      (subst (λ (o : Option Surface). Each (λ b. is_over (asked_of id r q) b ≡ false) (buffers_had (option_map (λ (x : Surface). x.history) o))) (sym there)
      (each-map (λ b. has b.number s.history ≡ true) (λ b. is_over (asked_of id r q) b ≡ false) stays (buffers_of s.history) (had-each s.history)))
    where
      one : Surface → Surface
      one x = cond (x.id == id) (asking r x) x

      one-id : (x : Surface) (b : Bool) → (cond b (asking r x) x).id ≡ x.id
      one-id x true = refl
      one-id x false = refl

      stays : (b : Buffer) → has b.number s.history ≡ true → is_over (asked_of id r q) b ≡ false
      stays b has_it =
          used-stays (asked_of id r q) b
          (found-any (λ x. x.id == id) (λ x. has b.number x.history) (map one q.owned.surfaces.surfaces) (asking r s)
          (found-map (λ x. x.id == id) one q.owned.surfaces.surfaces (λ x. ap (λ i. i == id) (one-id x (x.id == id))) ∙ ap (λ o. option_map one o) there
          ∙ ap (λ c. Some (cond c (asking r s) s)) (found-passes (λ y. y.id == id) q.owned.surfaces.surfaces s there))
          (still-has b.number s cut within ∙ has_it))
