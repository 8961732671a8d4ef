-- What is known of the side files of a folder.
use Rattle.std.specs.Prelude.{◌≡◌, ℕ, Bool, false, List, []}
use Rattle.wl_recording.specs.Side.{Files}

-- the folder's path, whether a file of it is open, whether there was no memory to open one, and how many faults there were
pub record FolderView : Type 0 where
  pub folder : List ℕ
  pub is_open : Bool
  pub lacks_memory : Bool
  pub faults : ℕ

-- What the files hold isn't known, but where none is open, there is nothing to read. A read opens and closes none.
abbrev pub MayGive : FolderView → List ℕ → FolderView → Type 0
MayGive old bytes new = (old.is_open ≡ false → bytes ≡ []) × (new.is_open ≡ old.is_open)

-- Which files there are isn't known, but the answer says whether one is open then.
abbrev pub MayOpen : FolderView → List ℕ → ℕ → Bool → FolderView → Type 0
MayOpen old name from there new = new.is_open ≡ there

-- the side files of a folder, as a replay meets them
abbrev pub folder_files : Files FolderView
folder_files = record { opens = MayOpen; gives = MayGive; faults = λ side. side.faults }

-- no file is open, and there was no fault
abbrev pub new_folder : List ℕ → FolderView
new_folder path = record { folder = path; is_open = false; lacks_memory = false; faults = 0 }
