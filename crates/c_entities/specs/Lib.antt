-- The entities of the code as what is known of them (Views), and what is read and changes of them (Changes).
pub mod Views
pub mod Changes
