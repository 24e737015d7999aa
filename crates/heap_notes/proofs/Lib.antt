pub mod NotesStay
