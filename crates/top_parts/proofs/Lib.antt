pub mod GrownLists
