-- What is noted of an act, by what its recording says of itself.
use Rattle.std.proofs.Common.{◌≡◌, ◌+◌, ◌-◌, ◌∙◌, ℕ, ℤ, suc, List, [], ◌∷◌, ◌++◌, Option, Some, None, Ok, refl, ap, sym, subst, drop, length, take, add-one}
use Rattle.spec_desktop.specs.Act.{Act, Connect, Feed, Leave, Motion, Store, peer_at, status_of}
use Rattle.spec_desktop.specs.Desktop.{Desktop}
use Rattle.spec_desktop.specs.declared.answers.Done.{Done}
use Rattle.spec_desktop.specs.declared.answers.Done.TheVariants as gave
use Rattle.spec_desktop.specs.declared.answers.Fed.{Fed}
use Rattle.wl_recording.specs.Line as line
use Rattle.wl_recording.specs.Line.{Asked}
use Rattle.wl_recording.specs.Recording.{Differs, Feeds, HoldsTo, Recorded, goes, joined, number_of, stores}
use Rattle.wl_recording.specs.declared.place.Place.{Place}
use Rattle.wl_session.specs.StoreBytes.{store_bytes_of}
use Rattle.wl_server.specs.Recorded.{HoldsNotes, Notes, NotesAct, NotesAt, NotesOf, NotesPut, OnBoth, held_at, looked_at, looked_up_to, with_lines}

-- ---- where there is a recording, and where there is none

pub on-some : {W : Type 0} (P : Recorded W → Recorded W → Type 0) (slot : Option (Recorded W)) (r s : Recorded W) → slot ≡ Some r → P r s → OnBoth P slot (Some s)
on-some {W} P slot r s is p = subst (λ (o : Option (Recorded W)). OnBoth P o (Some s)) (sym is) p

pub on-none : {W : Type 0} (P : Recorded W → Recorded W → Type 0) (slot : Option (Recorded W)) → slot ≡ None → OnBoth P slot slot
on-none {W} P slot is = subst (λ (o : Option (Recorded W)). OnBoth P o o) (sym is) tt

-- ---- the clients up to one are looked at

pub up-to-none : {W : Type 0} (contents : W → Option (List ℕ)) (first : Option (List ℕ)) (d : Desktop) (notes : Notes) (r : Recorded W)
    → HoldsNotes contents first notes r → HoldsNotes contents first (looked_up_to 0 d notes) r
unfolding looked_up_to
up-to-none contents first d notes r holds = holds

up-to-suc : {W : Type 0} (contents : W → Option (List ℕ)) (first : Option (List ℕ)) (k : ℕ) (d : Desktop) (notes : Notes) (r : Recorded W)
    → HoldsNotes contents first (looked_at (suc k) (status_of (peer_at (suc k) d)) (looked_up_to k d notes)) r → HoldsNotes contents first (looked_up_to (suc k) d notes) r
unfolding looked_up_to
up-to-suc contents first k d notes r holds = holds

pub up-to-more : {W : Type 0} (contents : W → Option (List ℕ)) (first : Option (List ℕ)) (k client : ℕ) (status : Fed) (d : Desktop) (notes : Notes) (r : Recorded W)
    → client ≡ k + 1 → status ≡ status_of (peer_at client d)
    → HoldsNotes contents first (looked_at client status (looked_up_to k d notes)) r → HoldsNotes contents first (looked_up_to (k + 1) d notes) r
up-to-more {W} contents first k client status d notes r is stands holds =
    let here = subst (λ (f : Fed). HoldsNotes contents first (looked_at client f (looked_up_to k d notes)) r) stands holds in
    let there = subst (λ (c : ℕ). HoldsNotes contents first (looked_at c (status_of (peer_at c d)) (looked_up_to k d notes)) r) (is ∙ add-one k) here in
    subst (λ (n : ℕ). HoldsNotes contents first (looked_up_to n d notes) r) (sym (add-one k)) (up-to-suc contents first k d notes r there)

-- ---- acts

-- what asks one thing is a line
pub noted-one : {W : Type 0} (contents : W → Option (List ℕ)) (act : Act) (done : Done) (a : Asked) (r s : Recorded W)
    → ((d : Desktop) (notes : Notes) → NotesAct d act done notes (with_lines (a ∷ []) notes))
    → ((first : Option (List ℕ)) (asked : List Asked) → HoldsTo 1000000 contents first asked r → HoldsTo 1000000 contents first (asked ++ a ∷ []) s)
    → s.clients ≡ r.clients → NotesOf contents act done r s
noted-one contents act done a r s is writes clients = λ d first notes holds. (
  with_lines (a ∷ []) notes,
  is d notes,
  record { clients = clients ∙ holds.clients; holds = writes first notes.asked holds.holds },
)

LineOf : {W : Type 0} → (W → Option (List ℕ)) → ℕ → ℤ → ℤ → Recorded W → Recorded W → Type 0
LineOf contents time x y r s =
    (first : Option (List ℕ)) (asked : List Asked) → HoldsTo 1000000 contents first asked r → HoldsTo 1000000 contents first (asked ++ line.Motion time x y ∷ []) s

-- a motion, whose coordinates are those that were kept
pub noted-motion : {W : Type 0} (contents : W → Option (List ℕ)) (time : ℕ) (x y kept_x kept_y : ℤ) (r s : Recorded W) → kept_x ≡ x → kept_y ≡ y
    → ((first : Option (List ℕ)) (asked : List Asked) → HoldsTo 1000000 contents first asked r → HoldsTo 1000000 contents first (asked ++ line.Motion time kept_x kept_y ∷ []) s)
    → s.clients ≡ r.clients → NotesOf contents (Motion time x y) gave.Motion r s
unfolding LineOf
noted-motion contents time x y kept_x kept_y r s is_x is_y writes clients =
    let there = subst (λ (b : ℤ). LineOf contents time kept_x b r s) is_y writes in
    noted-one contents (Motion time x y) gave.Motion (line.Motion time x y) r s (λ d notes. refl) (subst (λ (a : ℤ). LineOf contents time a y r s) is_x there) clients

pub noted-nothing : {W : Type 0} (contents : W → Option (List ℕ)) (act : Act) (done : Done) (r : Recorded W) → ((d : Desktop) (notes : Notes) → NotesAct d act done notes notes)
    → NotesOf contents act done r r
noted-nothing contents act done r is = λ d first notes holds. (notes, is d notes, holds)

pub noted-connect : {W : Type 0} (contents : W → Option (List ℕ)) (client : ℕ) (r s : Recorded W)
    → ((first : Option (List ℕ)) (asked : List Asked) → HoldsTo 1000000 contents first asked r → HoldsTo 1000000 contents first (asked ++ line.Connect ∷ []) s)
    → s.clients ≡ joined client r.clients → NotesOf contents Connect (gave.Connect (Ok client)) r s
noted-connect contents client r s writes clients = λ d first notes holds. (
  record { asked = notes.asked ++ line.Connect ∷ []; clients = joined client notes.clients },
  refl,
  record { clients = clients ∙ ap (joined client) holds.clients; holds = writes first notes.asked holds.holds },
)

pub noted-fed : {W : Type 0} (contents : W → Option (List ℕ)) (client : ℕ) (piece : List ℕ) (done : Done) (r s : Recorded W)
    → ((first : Option (List ℕ)) (asked : List Asked) → HoldsTo 1000000 contents first asked r
    → (more : List Asked) × Feeds (number_of client r.clients) piece more × HoldsTo 1000000 contents first (asked ++ more) s)
    → s.clients ≡ r.clients → NotesOf contents (Feed client piece) done r s
noted-fed contents client piece done r s writes clients = λ d first notes holds.
    let wrote = writes first notes.asked holds.holds in (
      with_lines wrote.0 notes,
      (wrote.0, subst (λ (cs : List (Option ℕ)). Feeds (number_of client cs) piece wrote.0) holds.clients wrote.1, refl),
      record { clients = clients ∙ holds.clients; holds = wrote.2 },
    )

pub noted-gone : {W : Type 0} (contents : W → Option (List ℕ)) (client : ℕ) (done : Done) (r s : Recorded W)
    → ((first : Option (List ℕ)) (asked : List Asked) → HoldsTo 1000000 contents first asked r → HoldsTo 1000000 contents first (asked ++ goes (number_of client r.clients)) s)
    → s.clients ≡ r.clients → NotesOf contents (Leave client) done r s
noted-gone contents client done r s writes clients = λ d first notes holds. (
  with_lines (goes (number_of client notes.clients)) notes,
  refl,
  record {
    clients = clients ∙ holds.clients;
    holds = subst (λ (cs : List (Option ℕ)). HoldsTo 1000000 contents first (notes.asked ++ goes (number_of client cs)) s) holds.clients (writes first notes.asked holds.holds);
  },
)

-- ---- bytes of a store

LinesOf : {W : Type 0} → (W → Option (List ℕ)) → Option (List ℕ) → List Asked → Place → ℕ → List ℕ → Recorded W → List (Option ℕ) → Type 0
LinesOf contents first asked place from piece s clients = HoldsTo 1000000 contents first (asked ++ stores (number_of place.client clients) place from piece) s

pub noted-put : {W : Type 0} (contents : W → Option (List ℕ)) (d : Desktop) (place : Place) (bytes held : List ℕ) (done : Done) (r s : Recorded W)
    → Some held ≡ held_at place.at (length bytes) (store_bytes_of place.store (peer_at place.client d))
    → ((first : Option (List ℕ)) (asked : List Asked) → HoldsTo 1000000 contents first asked r
    → (from : ℕ) × (to : ℕ) × Differs bytes held from to
    × HoldsTo 1000000 contents first (asked ++ stores (number_of place.client r.clients) place from (take (to - from) (drop from bytes))) s)
    → s.clients ≡ r.clients → NotesAt contents d (Store place.client place.store place.at bytes) done r s
unfolding LinesOf
noted-put contents d place bytes held done r s is writes clients = λ first notes holds.
    let wrote = writes first notes.asked holds.holds in
    let piece = take (wrote.1 - wrote.0) (drop wrote.0 bytes) in
    let next = with_lines (stores (number_of place.client notes.clients) place wrote.0 piece) notes in (
      next,
      subst (λ (h : Option (List ℕ)). NotesPut place bytes h notes next) is (wrote.0, wrote.1, wrote.2, refl),
      record { clients = clients ∙ holds.clients; holds = subst (LinesOf contents first notes.asked place wrote.0 piece s) holds.clients wrote.3 },
    )

pub noted-unput : {W : Type 0} (contents : W → Option (List ℕ)) (d : Desktop) (place : Place) (bytes : List ℕ) (done : Done) (r : Recorded W)
    → None ≡ held_at place.at (length bytes) (store_bytes_of place.store (peer_at place.client d))
    → NotesAt contents d (Store place.client place.store place.at bytes) done r r
noted-unput contents d place bytes done r is = λ first notes holds.
    (notes, subst (λ (h : Option (List ℕ)). NotesPut place bytes h notes notes) is refl, holds)
