-- What writes leave of a folder.
use Rattle.std.specs.Prelude.{ℕ, List, [], ◌∷◌, Option, Some, None}
use Rattle.std.specs.FinMap as map
use Rattle.plan_files.specs.declared.write.Write.{Write}
use Rattle.plan_files.specs.declared.write.Write.TheVariants.{Put, Removal}
use Rattle.plan_files.specs.Folder.{Folder}

-- the folder after one write
abbrev pub after_write : Write → Folder → Folder
after_write (Put name bytes) folder = map.insert folder name bytes
after_write (Removal name) folder = map.remove folder name

-- the folder after writes, in order
abbrev pub folder_after : List Write → Folder → Folder
folder_after [] folder = folder
folder_after (write ∷ writes) folder = folder_after writes (after_write write folder)

-- the folder that writes leave where there were no files before
abbrev pub folder_of : List Write → Folder
folder_of writes = folder_after writes map.empty

-- the name that a write changes
abbrev pub write_name : Write → List ℕ
write_name (Put name bytes) = name
write_name (Removal name) = name

-- what a write leaves under its name
abbrev pub left_by : Write → Option (List ℕ)
left_by (Put name bytes) = Some bytes
left_by (Removal name) = None
